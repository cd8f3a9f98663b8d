-- `table::reading::read_nexts` meets its contract: each `return` is one of the ways out of field 3.
use mathlib.Core.Path.{◌≡◌, sym, ap, ap₂, ◌∙◌}
use mathlib.Core.List.{List, [], ◌∷◌}
use Prim.Native.Nat.{ℕ, ◌+◌, ◌*◌, ◌-◌, ◌<◌}
use lib.Dec.{leb}
use lib.ListN.{take, drop}
use Rattle.std.proofs.lemmas.Result.{err_from_is_err_and}
use Rattle.counting.specs.Least.{least}
use Rattle.counting.proofs.Leasts.{first_least, least_none}
use Rattle.lending.specs.Pairs.{pair_at}
use Rattle.table.specs.Answers.{gives, refuses}
use Rattle.table.specs.Judging.{bad_next}
use Rattle.table.specs.Bodies.{part}
use Rattle.table.specs.declared.answer.Part.{Part}
use Rattle.table.proofs.Ways.{nexts_cut, nexts_bad, nexts_good}
use Rattle.table.proofs.Openings.{Opened, opened}
use Rattle.table.proofs.Contents.{between, bad_in_nexts}
use native.Mathlib.Omega.{arith}
use Rattle.table.proofs.reading.read_nexts.Goals as goal

-- the first bad next state of the part that was handed on is that of the field
found : {file : List ℕ} (n m : ℕ) {bad : ℕ} {p : Part}
    → Opened file (12 + n) 3 (2 * m) p
    → least m (λ i. leb n (pair_at (take ((p.place + 2 * m) - p.place) (drop p.place file)) (2 * i))) ≡ bad
    → bad_next file n m ≡ bad
found {file} n m {bad} {p} f e =
    sym (bad_in_nexts file n m f.stands.bodied)
    ∙ sym (ap (λ (nexts : List ℕ). least m (λ i. leb n (pair_at nexts (2 * i)))) (between file _ (2 * m) ∙ ap (λ (place : ℕ). part file place (2 * m)) f.place))
    ∙ e

pub returns-in_err-part : goal.returns-in_err-part
returns-in_err-part c =
    let a = c.args in
    let p = err_from_is_err_and c.from_residual.result c.from_residual.ensures.1 in
    rw (p.1, p.2) (sym (nexts_cut a.file.now a.n a.m (sym c.in_err-part.ensures)))

pub overflow_add-end : goal.overflow_add-end
overflow_add-end c = omega (arith, (opened c.in_ok-part.part c.in_ok-part.ensures).place)

pub slice_bounds-first_bad_next-end : goal.slice_bounds-first_bad_next-end
slice_bounds-first_bad_next-end c =
    let f = opened c.in_ok-part.part c.in_ok-part.ensures in
    omega (arith, f.place, f.stands.bodied)

pub returns-in-Some : goal.returns-in-Some
returns-in-Some c =
    let a = c.args in
    let f = opened c.in_ok-part.part c.in_ok-part.ensures in
    let b = found a.n a.m f (first_least c.in-Some.bad c.in-Some.ensures) in
    let inside : bad_next a.file.now a.n a.m < a.m = omega (arith, b, c.in-Some.ensures.0) in
    ap₂ (λ (place bad : ℕ). refuses 8 (place + 2 * bad)) f.place (sym b) ∙ sym (nexts_bad a.file.now a.n a.m f.stands inside)

pub returns-in-None : goal.returns-in-None
returns-in-None c =
    let a = c.args in
    let f = opened c.in_ok-part.part c.in_ok-part.ensures in
    let b = found a.n a.m f (least_none _ _ c.in-None.ensures) in
    ap₂ (λ (place size : ℕ). gives (place ∷ size ∷ [])) f.place f.length ∙ sym (nexts_good a.file.now a.n a.m f.stands (omega (arith, b)))
