-- `splitting::starts::fresh` meets its contract: each `return` is one of the ways out of the fresh start.
use mathlib.Core.Path.{subst₂}
use mathlib.Core.Logic.{inl, inr}
use mathlib.Core.List.{List}
use Prim.Native.Nat.{ℕ}
use Rattle.layering.specs.Layered.{FirstNamed}
use Rattle.splitting.specs.Filling.{FreshFilled}
use Rattle.std.proofs.lemmas.Result.{err_from_is_err_and}
use Rattle.splitting.proofs.StartWays.{start_refused, start_short, start_fresh}
use Rattle.splitting.proofs.starts.fresh.Goals as goal
use Rattle.splitting.proofs.starts.fresh.Goals.{then-class-n-via-then-class-n, then-class-n-via-else-class-n+then-pending-n}

pub returns-in_err-table : goal.returns-in_err-table
returns-in_err-table c =
    let p = err_from_is_err_and c.from_residual.result c.from_residual.ensures.1 in
    rw (p.1, p.2) (start_refused _ _ _ c.in_err-table.ensures)

pub returns-then-class-n : goal.returns-then-class-n
returns-then-class-n c =
    start_short _ _ c.in_ok-table.ensures.good _ _
    (elim c.then-class-n.branch [ then-class-n-via-then-class-n w ↦ inl w.if-class-n.true | then-class-n-via-else-class-n+then-pending-n w ↦ inr w.if-pending-n.true ])

pub returns : goal.returns
returns c =
    let a = c.args in
    let t = c.in_ok-table.table in
    let z = t.nexts.sizes in
    let o = c.in_ok-table.ensures in
    start_fresh a.file.now z o.good a.class.now a.pending.now c.if-class-n.false c.if-pending-n.false
    _ (subst₂ (λ (marks : List ℕ) (n : ℕ). FirstNamed marks n a.class.now c.mark_names.new.names) o.marks t.sized c.mark_names.ensures)
    _ (subst₂ (λ (marks : List ℕ) (n : ℕ). FreshFilled n z.signs marks a.pending.now c.fill_fresh.new.pending) o.marks t.sized c.fill_fresh.ensures)
