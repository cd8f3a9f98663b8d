-- `splitting::hits::count_hits` meets its contract.
use mathlib.Core.Path.{sym, ◌∙◌}
use native.Mathlib.Omega.{arith}
use Rattle.splitting.proofs.Columns.{counted_none, counted_miss, counted_hit, looked_most, led_most}
use Rattle.splitting.proofs.hits.count_hits.Goals as goal
use Rattle.splitting.proofs.hits.count_hits.Goals.{then-leads, else-leads}

pub loop-x-init : goal.loop-x-init
loop-x-init c = counted_none _ _ _ _ _ _ c.requires.room c.requires.unled

pub offset_bounds-touched-entries : goal.offset_bounds-touched-entries
offset_bounds-touched-entries c = omega (arith, looked_most _ _ _ _ _ _ _ _ c.loop-x.invariant, c.args.nexts.now.held.range.states_most)

pub bounds-touched-entries : goal.bounds-touched-entries
bounds-touched-entries c = omega (arith, looked_most _ _ _ _ _ _ _ _ c.loop-x.invariant, c.loop-x.invariant.room.1)

pub overflow_add-leds : goal.overflow_add-leds
overflow_add-leds c =
    let l = c.loop-x in
    omega (
      arith,
      led_most _ _ _ _ _ _ _ _ l.invariant c.number_at-c.result (omega (arith, c.number_at-c.ensures.value, c.requires.classed.low l.x c.loop-x-test.true)),
      c.args.nexts.now.held.range.states_most,
    )

pub overflow_add-entries : goal.overflow_add-entries
overflow_add-entries c = omega (arith, looked_most _ _ _ _ _ _ _ _ c.loop-x.invariant, c.args.nexts.now.held.range.states_most)

pub loop-x-preserved : goal.loop-x-preserved
loop-x-preserved c =
    let l = c.loop-x in
    let t = c.loop-x-test.true in
    elim c.if-leads.branch [
      | then-leads w ↦
          (let e = w.number_at-c.ensures.value in
          rw (w.leds-is, w.touched-is, w.entries-is)
          (counted_hit _ _ _ _ _ _ _ _ l.invariant w.number_at-c.result e t (omega (arith, e, c.requires.classed.low l.x t)) (sym c.leads.ensures ∙ w.if-leads.true)))
      | else-leads w ↦ rw (w.leds-is, w.touched-is, w.entries-is) (counted_miss _ _ _ _ _ _ _ _ l.invariant (sym c.leads.ensures ∙ w.if-leads.false))
    ]
