-- `table::judging::judge` meets its contract: a refusal of a field is the file's, once the fields before it are right.
use mathlib.Core.Path.{sym, ap, ap₂, ◌∙◌}
use Prim.Native.Nat.{ℕ, ◌+◌, ◌*◌}
use Rattle.std.proofs.lemmas.Result.{err_from_is_err_and}
use Rattle.table.specs.Judging.{marks_due, nexts_due}
use Rattle.table.proofs.Openings.{sized, marked, nexted, accepted}
use Rattle.table.proofs.Refusals.{in_sizes, in_marks, in_nexts, by_row_3}
use native.Mathlib.Omega.{arith}
use Rattle.table.proofs.judging.judge.Goals as goal

pub returns-in_err-sizes : goal.returns-in_err-sizes
returns-in_err-sizes c =
    let p = err_from_is_err_and c.from_residual.result c.from_residual.ensures.1 in
    rw (p.1, p.2) (sym (in_sizes c.args.file.now (sym c.in_err-sizes.ensures)))

pub overflow_mul-m : goal.overflow_mul-m
overflow_mul-m c = omega (arith, (sized c.in_ok-sizes.sizes c.in_ok-sizes.ensures).range.nexts_most)

pub read_marks-requires : goal.read_marks-requires
read_marks-requires c = (sized c.in_ok-sizes.sizes c.in_ok-sizes.ensures).range.states_most

pub returns-in_err-read_marks : goal.returns-in_err-read_marks
returns-in_err-read_marks c =
    let p = err_from_is_err_and c.from_residual-in_err-read_marks.result c.from_residual-in_err-read_marks.ensures.1 in
    let g = sized c.in_ok-sizes.sizes c.in_ok-sizes.ensures in
    rw (p.1, p.2) (sym (in_marks _ g.right (ap (marks_due _) (sym g.states) ∙ sym c.in_err-read_marks.ensures)))

pub read_nexts-requires : goal.read_nexts-requires
read_nexts-requires c =
    let r = (sized c.in_ok-sizes.sizes c.in_ok-sizes.ensures).range in
    (r.states_most, r.nexts_most)

pub returns-in_err-nexts : goal.returns-in_err-nexts
returns-in_err-nexts c =
    let p = err_from_is_err_and c.from_residual-in_err-nexts.result c.from_residual-in_err-nexts.ensures.1 in
    let file = c.args.file.now in
    let g = sized c.in_ok-sizes.sizes c.in_ok-sizes.ensures in
    let s = marked c.in_ok-read_marks.field-0 g c.in_ok-read_marks.ensures in
    rw (p.1, p.2) (sym (in_nexts file s (ap₂ (λ (x y : ℕ). nexts_due file x (x * y)) (sym g.states) (sym g.signs) ∙ sym c.in_err-nexts.ensures)))

pub overflow_add-end : goal.overflow_add-end
overflow_add-end c =
    let g = sized c.in_ok-sizes.sizes c.in_ok-sizes.ensures in
    let t = nexted c.in_ok-nexts.nexts g (marked c.in_ok-read_marks.field-0 g c.in_ok-read_marks.ensures) c.in_ok-nexts.ensures in
    omega (arith, t.place, t.length, t.right.marks.sizes.range.states_most, t.right.marks.sizes.range.nexts_most)

pub returns-then-end-file : goal.returns-then-end-file
returns-then-end-file c =
    let g = sized c.in_ok-sizes.sizes c.in_ok-sizes.ensures in
    let t = nexted c.in_ok-nexts.nexts g (marked c.in_ok-read_marks.field-0 g c.in_ok-read_marks.ensures) c.in_ok-nexts.ensures in
    sym (by_row_3 _ _ (t.right, ap₂ ◌+◌ t.place t.length, c.if-end-file.true))

pub returns : goal.returns
returns c =
    let g = sized c.in_ok-sizes.sizes c.in_ok-sizes.ensures in
    let t = nexted c.in_ok-nexts.nexts g (marked c.in_ok-read_marks.field-0 g c.in_ok-read_marks.ensures) c.in_ok-nexts.ensures in
    accepted g t c.if-end-file.false
