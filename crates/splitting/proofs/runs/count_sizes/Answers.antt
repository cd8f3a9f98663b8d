-- `splitting::runs::count_sizes` meets its contract.
use mathlib.Core.Path.{sym, ◌∙◌}
use native.Mathlib.Omega.{arith}
use borrow.Author.Tests.{eq-eqb, ne_eqb}
use Rattle.std.proofs.Common.{rules}
use lib.Dec.{eqb}
use Rattle.counting.specs.Lists.{at}
use Rattle.splitting.proofs.Columns.{count_more}
use Rattle.splitting.proofs.runs.count_sizes.Goals as goal

pub loop-x-preserved : goal.loop-x-preserved
loop-x-preserved c =
    let l = c.loop-x in
    let own = c.number_at-c.ensures.value in
    let low = c.requires.classed.low l.x c.loop-x-test.true in
    let class = c.args.classes.now in
    record {
      room = search rules;
      sizes = λ k m.
          count_more l.sizes (λ y. eqb (at class y) k) l.x c.number_at-c.result k (omega (arith, own, low, l.invariant.room)) (λ f. eq-eqb _ _ (sym own ∙ sym f)) (λ u. ne_eqb _ _ (λ f. u (sym f ∙ sym own))) (l.invariant.sizes k m);
    }
