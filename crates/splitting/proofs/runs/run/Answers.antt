-- `splitting::runs::run` meets its contract: each `return` is one of the ways out of the run of takes.
use mathlib.Core.Path.{sym, ap, subst, ◌∙◌}
use mathlib.Core.Logic.{inl, inr}
use mathlib.Core.List.{List, [], ◌∷◌}
use Prim.Native.Nat.{ℕ}
use Rattle.refining.specs.Lists.{WellFormed}
use Rattle.table.specs.Answers.{refuses}
use Rattle.table.specs.Leaving.{left}
use Rattle.std.proofs.lemmas.Result.{err_from_is_err_and}
use Rattle.splitting.proofs.Copying.{full_lists}
use Rattle.splitting.proofs.RunWays.{allowed_most, well_formed, run_refused, run_narrow, run_short, run_ill, run_made}
use native.Mathlib.Omega.{arith}
use Rattle.splitting.proofs.runs.run.Goals as goal
use Rattle.splitting.proofs.runs.run.Goals.{then-class-n-via-then-class-n, then-class-n-via-else-class-n+then-pending-n}

pub returns-in_err-table : goal.returns-in_err-table
returns-in_err-table c =
    let p = err_from_is_err_and c.from_residual.result c.from_residual.ensures.1 in
    rw (p.1, p.2) (run_refused _ _ _ _ _ c.in_err-table.ensures)

pub returns-then-work-room : goal.returns-then-work-room
returns-then-work-room c = run_narrow _ _ c.in_ok-table.ensures.good _ _ _ _ c.if-work-room.true

pub returns-then-class-n : goal.returns-then-class-n
returns-then-class-n c =
    let a = c.args in
    ap (λ (w : List ℕ). left (refuses 12 c.in_ok-table.table.nexts.sizes.states) (a.class.now ∷ a.pending.now ∷ w ∷ [])) c.clear.ensures
    ∙ run_short _ _ c.in_ok-table.ensures.good _ _ _ _ c.if-work-room.false
    (elim c.then-class-n.branch [ then-class-n-via-then-class-n w ↦ inl w.if-class-n.true | then-class-n-via-else-class-n+then-pending-n w ↦ inr w.if-pending-n.true ])

pub returns-in-Some : goal.returns-in-Some
returns-in-Some c = run_ill _ _ c.in_ok-table.ensures.good _ _ _ _ c.if-work-room.false c.if-class-n.false c.if-pending-n.false c.in-Some.ensures

pub run_takes-tally-requires-clause-room : goal.run_takes-tally-requires-clause-room
run_takes-tally-requires-clause-room c =
    (omega (arith, c.if-work-room.false, c.copy_in.ensures.long, c.copy_in-2.ensures.long), omega (arith, c.allowed_takes.ensures, allowed_most c.args.budget))

pub run_takes-tally-requires-clause-formed : goal.run_takes-tally-requires-clause-formed
run_takes-tally-requires-clause-formed c =
    let a = c.args in
    let z = c.in_ok-table.table.nexts.sizes in
    let put = full_lists z.states a.class.now a.pending.now a.work.now _ _ c.if-class-n.false c.if-pending-n.false (omega (arith, c.if-work-room.false)) c.copy_in.ensures c.copy_in-2.ensures in
    subst (WellFormed z.states z.signs) (sym put) (well_formed z.states z.signs _ c.in_default.ensures)

pub returns : goal.returns
returns c =
    let o = c.in_ok-table.ensures in
    run_made _ _ o.good _ _ _ _ c.if-work-room.false c.if-class-n.false c.if-pending-n.false c.in_default.ensures
    c.copy_in.ensures c.copy_in-2.ensures o.nexts c.allowed_takes.ensures c.run_takes-tally.ensures c.copy_out.ensures c.copy_out-2.ensures c.clear-2.ensures
