-- `layering::rounds::run_round` meets its contract.
use mathlib.Core.Path.{refl, sym}
use native.Mathlib.Numerals.{add-one}
use Rattle.std.proofs.Common.{rules}
use native.Mathlib.Omega.{arith}
use Rattle.layering.proofs.Rounding.{round_goes_on, rounded_as}
use Rattle.layering.proofs.rounds.run_round.Goals as goal

pub loop-q-preserved : goal.loop-q-preserved
loop-q-preserved c =
    let l = c.loop-q in record {
      kept = search rules;
      rounded = rounded_as (sym (add-one l.q)) refl (round_goes_on _ _ _ _ c.args.layer l.q l.changed _ l.invariant.rounded c.name_state-fresh.ensures.advanced);
    }

pub returns-clause-rounded : goal.returns-clause-rounded
returns-clause-rounded c = rounded_as (omega arith) refl c.loop-q.invariant.rounded
