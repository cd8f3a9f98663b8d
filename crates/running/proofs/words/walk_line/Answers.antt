-- `running::words::walk_line` meets its contract.
use mathlib.Core.Path.{refl, sym, ap, ◌∙◌}
use native.Mathlib.Omega.{arith}
use Rattle.counting.specs.Lists.{at}
use Rattle.automaton.specs.Words.{steps}
use Rattle.table.specs.Tables.{unmarked}
use Rattle.running.specs.Plan.{spelled}
use Rattle.running.proofs.Walking.{steps_more, steps_whole}
use Rattle.running.proofs.Signs.{spelled-length, spelled_at}
use Rattle.running.proofs.words.walk_line.Goals as goal

pub loop-byte-init : goal.loop-byte-init
unfolding steps
loop-byte-init c = record { led = refl; inside = c.args.nexts.now.held.start-in }

pub loop-byte-preserved : goal.loop-byte-preserved
loop-byte-preserved c =
    let l = c.loop-byte in
    let t = c.args.nexts.now in
    let line = c.args.line.now in
    let plan = c.args.plan.now in
    let n = spelled-length plan line in
    record {
      led = steps_more (unmarked t) t.sizes.start (spelled plan line) l.byte-index l.state c.from-a.result c.next_of-state.result (omega (arith, n)) l.invariant.led
          (c.from-a.ensures ∙ ap (at plan) c.from.ensures ∙ sym (spelled_at plan line l.byte-index c.loop-byte-test.true)) c.next_of-state.ensures.value;
      inside = c.next_of-state.ensures.inside;
    }

pub returns-clause-reached : goal.returns-clause-reached
returns-clause-reached c =
    let a = c.args in
    let t = a.nexts.now in
    let l = c.loop-byte in
    l.invariant.led ∙ steps_whole (unmarked t) t.sizes.start (spelled a.plan.now a.line.now) l.byte-index (omega (arith, spelled-length a.plan.now a.line.now))
