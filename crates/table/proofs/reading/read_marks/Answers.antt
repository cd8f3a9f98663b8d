-- `table::reading::read_marks` meets its contract: each `return` is one of the ways out of field 2.
use mathlib.Core.Path.{◌≡◌, sym, ap, ap₂, ◌∙◌}
use mathlib.Core.List.{List, [], ◌∷◌}
use Prim.Native.Nat.{ℕ, ◌+◌, ◌-◌, ◌<◌}
use lib.Dec.{ltb}
use Rattle.std.proofs.lemmas.Result.{err_from_is_err_and}
use lib.ListN.{length, get_or, take, drop}
use Rattle.counting.specs.Least.{least}
use Rattle.counting.proofs.Leasts.{first_least, least_none}
use Rattle.table.specs.Answers.{gives, refuses}
use Rattle.table.specs.Judging.{bad_mark}
use Rattle.table.specs.Bodies.{part}
use Rattle.table.specs.declared.answer.Part.{Part}
use Rattle.table.proofs.Ways.{marks_cut, marks_bad, marks_good}
use Rattle.table.proofs.Openings.{Opened, opened}
use Rattle.table.proofs.Contents.{between, part_length, bad_in_marks}
use native.Mathlib.Omega.{arith}
use Rattle.table.proofs.reading.read_marks.Goals as goal

-- the marks of the part that was handed on
abbrev marks_in : List ℕ → ℕ → Part → List ℕ
marks_in file n p = take ((p.place + n) - p.place) (drop p.place file)

-- the first bad mark among them is that of the field
found : {file : List ℕ} {n bad : ℕ} {p : Part} → Opened file 9 2 n p → least (length (marks_in file n p)) (λ q. ltb 1 (get_or (marks_in file n p) q 0)) ≡ bad → bad_mark file n ≡ bad
found {file} {n} {bad} {p} f e =
    sym (bad_in_marks file n f.stands.bodied)
    ∙ sym (ap (λ (marks : List ℕ). least (length marks) (λ q. ltb 1 (get_or marks q 0))) (between file _ n ∙ ap (λ (place : ℕ). part file place n) f.place))
    ∙ e

-- they are n
between_long : {file : List ℕ} {n : ℕ} {p : Part} → Opened file 9 2 n p → length (marks_in file n p) ≡ n
between_long {file} {n} {p} f = ap length (between file p.place n) ∙ part_length file p.place n (omega (arith, f.place, f.stands.bodied))

pub returns-in_err-part : goal.returns-in_err-part
returns-in_err-part c =
    let p = err_from_is_err_and c.from_residual.result c.from_residual.ensures.1 in
    rw (p.1, p.2) (sym (marks_cut c.args.file.now c.args.n (sym c.in_err-part.ensures)))

pub overflow_add-end : goal.overflow_add-end
overflow_add-end c = omega (arith, (opened c.in_ok-part.part c.in_ok-part.ensures).place)

pub slice_bounds-first_bad_mark-end : goal.slice_bounds-first_bad_mark-end
slice_bounds-first_bad_mark-end c =
    let f = opened c.in_ok-part.part c.in_ok-part.ensures in
    omega (arith, f.place, f.stands.bodied)

pub returns-in-Some : goal.returns-in-Some
returns-in-Some c =
    let a = c.args in
    let f = opened c.in_ok-part.part c.in_ok-part.ensures in
    let b = found f (first_least c.in-Some.bad c.in-Some.ensures) in
    let inside : bad_mark a.file.now a.n < a.n = omega (arith, b, c.in-Some.ensures.0, between_long f) in
    ap₂ (λ (place bad : ℕ). refuses 7 (place + bad)) f.place (sym b) ∙ sym (marks_bad a.file.now a.n f.stands inside)

pub returns-in-None : goal.returns-in-None
returns-in-None c =
    let a = c.args in
    let f = opened c.in_ok-part.part c.in_ok-part.ensures in
    let b = found f (least_none _ _ c.in-None.ensures) in
    ap₂ (λ (place size : ℕ). gives (place ∷ size ∷ [])) f.place f.length ∙ sym (marks_good a.file.now a.n f.stands (omega (arith, b, between_long f)))
