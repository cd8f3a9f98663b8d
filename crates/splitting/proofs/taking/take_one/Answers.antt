-- `splitting::taking::take_one` meets its contract: each pass finds what it needs ready, and the passes leave the published take.
use mathlib.Core.Path.{◌≡◌, refl}
use mathlib.Core.Logic.{◌≢◌}
use mathlib.Core.List.{[]}
use Prim.Native.Nat.{ℕ, ◌-◌, ◌<◌}
use native.Mathlib.Omega.{arith}
use Rattle.std.proofs.Common.{rules}
use Rattle.counting.specs.Lists.{at}
use Rattle.refining.specs.Lists.{WellFormed}
use Rattle.table.specs.Tables.{unmarked}
use Rattle.table.specs.declared.tables.NextStates.{NextStates}
use Rattle.table.proofs.Handing.{held_lawful}
use Rattle.splitting.specs.declared.rooms.Rooms.{Rooms}
use Rattle.splitting.specs.Work.{lists_of, Ready}
use Rattle.splitting.proofs.Dueness.{Due, due_in}
use Rattle.splitting.proofs.Balances.{taken_quiet, share_fit, taken_split}
use Rattle.splitting.proofs.Columns.{looked_most}
use Rattle.splitting.proofs.taking.take_one.Goals as goal

-- the class taken is due with its sign, which is one less than its pending
due : (t : NextStates) (w : Rooms) (q r : ℕ)
    → WellFormed t.sizes.states t.sizes.signs (lists_of w)
    → Ready t.sizes.states w
    → (q < t.sizes.states) × (at w.pendings.now q ≢ 0) × ((p : ℕ) → p < q → at w.pendings.now p ≡ 0)
    → r ≡ at w.pendings.now q
    → Due (unmarked t) w.classes.now w.pendings.now q (r - 1)
due t w q r formed ready waits e =
    due_in (unmarked t) w q (r - 1) (held_lawful [] t.held) ready.room formed waits.0 (omega (arith, e, waits.1)) waits.2

pub settle_hits-split-requires-clause-room : goal.settle_hits-split-requires-clause-room
settle_hits-split-requires-clause-room c =
    let e = c.count_hits-entries.ensures in
    let r = c.requires.ready.room in
    (omega (arith, e.room.0, r.sizes), omega (arith, looked_most _ _ _ _ _ _ _ _ e, e.room.1))

pub share-requires-clause-fit : goal.share-requires-clause-fit
share-requires-clause-fit c =
    let r = c.requires in
    let d = due c.args.nexts.now c.args.rooms.now c.args.q c.number_at-a.result r.formed r.ready r.waits c.number_at-a.ensures.value in
    share_fit _ _ _ _ d r.ready _ _ _ _ _ c.count_hits-entries.ensures c.settle_hits-split.ensures _ _ _ c.rename.ensures

pub returns-then-split-clause-taken : goal.returns-then-split-clause-taken
returns-then-split-clause-taken c =
    let r = c.requires in
    let d = due c.args.nexts.now c.args.rooms.now c.args.q c.number_at-a.result r.formed r.ready r.waits c.number_at-a.ensures.value in
    taken_split _ _ _ _ d r.ready _ _ _ _ _ c.count_hits-entries.ensures c.settle_hits-split.ensures _ _ _ c.rename.ensures _ c.share.ensures
    _ (search rules) (search rules) refl refl refl refl c.adopt.ensures refl

pub returns-else-split-clause-taken : goal.returns-else-split-clause-taken
returns-else-split-clause-taken c =
    let r = c.requires in
    let d = due c.args.nexts.now c.args.rooms.now c.args.q c.number_at-a.result r.formed r.ready r.waits c.number_at-a.ensures.value in
    taken_quiet _ _ _ _ d r.ready _ _ _ _ _ c.count_hits-entries.ensures c.settle_hits-split.ensures c.if-split.false
    _ (search rules) (search rules) refl refl refl refl refl refl
