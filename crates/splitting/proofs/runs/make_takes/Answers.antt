-- `splitting::runs::make_takes` meets its contract.
use mathlib.Core.Path.{sym, subst}
use mathlib.Core.List.{[]}
use native.Mathlib.Omega.{arith}
use Rattle.table.specs.Tables.{unmarked}
use Rattle.table.proofs.Handing.{held_lawful}
use Rattle.splitting.proofs.Progress.{Progress, progress_none, progress_more, looked_more, ran_idle}
use Rattle.splitting.proofs.runs.make_takes.Goals as goal

pub loop-takes-init : goal.loop-takes-init
loop-takes-init c = progress_none (unmarked c.args.nexts.now) c.args.rooms.now c.requires.formed c.requires.ready

pub returns-in_default : goal.returns-in_default
returns-in_default c = ran_idle _ _ _ _ _ _ c.loop-takes.invariant c.args.budget (omega (arith, c.loop-takes-test.true)) c.in_default.ensures

pub overflow_add-entries : goal.overflow_add-entries
overflow_add-entries c =
    let l = c.loop-takes in
    let k = c.take_one-look in
    omega (arith, looked_more (unmarked c.args.nexts.now) l.rooms k.new.rooms k.result.entries c.args.nexts.now.held.range.states_most k.ensures.taken, l.invariant.looked_few, c.requires.room)

pub loop-takes-preserved : goal.loop-takes-preserved
loop-takes-preserved c =
    let first = c.in-Some.ensures in
    let h = c.args.nexts.now.held in
    let k = c.take_one-look in
    let i = c.loop-takes.invariant in
    subst (Progress _ _ _ _ _) (sym c.one_of-low.ensures)
    (progress_more _ _ _ _ _ _ i c.in-Some.q (omega (arith, first.0, i.ready.room.pendings)) first.1 (held_lawful [] h) h.range.states_most k.new.rooms k.result.entries k.ensures.taken k.result.split k.ensures.idle)
