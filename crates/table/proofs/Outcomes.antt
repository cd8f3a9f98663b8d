-- Every part of the judgement comes out in one of two ways: a refusal of the paper's table, or it gives and what it judged is right.
use mathlib.Core.Path.{◌≡◌, refl, ◌∙◌}
use mathlib.Core.Bool.{Bool, true, false}
use mathlib.Core.List.{List, [], ◌∷◌}
use Prim.Native.Nat.{ℕ, ◌+◌, ◌*◌, ◌≤◌}
use native.Mathlib.Omega.{arith}
use borrow.Author.Tests.{ltb-true, ltb-false, leb-true, leb-false}
use lib.Dec.{ltb, leb}
use lib.ListN.{length, get_or}
use Rattle.counting.specs.Least.{least}
use Rattle.counting.proofs.Leasts.{least_is, IsLeast}
use Rattle.lending.specs.Pairs.{pair_at}
use Rattle.table.specs.Answers.{Said, gives, refuses}
use Rattle.table.specs.Judging.{◌and_then◌, refuse, field_due, sizes_due, marks_due, nexts_due, judged, outside, bad_mark, bad_next, states_of, signs_of, start_of, end_of}
use Rattle.table.specs.Rows.{Whole, SizesRight, MarksRight, NextsRight, Right, Due, first, second, third, Given}
use Rattle.table.proofs.Chains.{stops, goes_on, refused, passed}
use Rattle.table.proofs.Dues.{cut, wrong_tag, wrong_size, whole, Outcome, is_cut, other_tag, other_size, is_whole, outcome}
use Rattle.table.proofs.Ranges.{in-range, not_in_range}

pub data Comes (file : List ℕ) (s : Said) (R : Type 0) : Type 0 where
  refusing : (number place : ℕ) → Given file number place → s ≡ refuses number place → Comes file s R
  giving : (vs : List ℕ) → R → s ≡ gives vs → Comes file s R

module _ (file : List ℕ) where
  both : {s t : Said} {R Q : Type 0} → Comes file s R → (R → Comes file t Q) → Comes file (s and_then t) Q
  both {t = t} (refusing number place g e) f = refusing number place g (stops t e)
  both {s} {t} {Q = Q} (giving vs r e) f = behind (f r)
    where
      behind : Comes file t Q → Comes file (s and_then t) Q
      behind (refusing number place g e') = refusing number place g (goes_on t e ∙ e')
      behind (giving vs' q e') = giving vs' q (goes_on t e ∙ e')

  test : (t : Bool) (number place : ℕ) {R : Type 0} → (t ≡ true → Given file number place) → (t ≡ false → R) → Comes file (refuse t number place) R
  test true number place y n = refusing number place (y refl) (refused number place refl)
  test false number place y n = giving [] (n refl) (passed number place refl)

  last : {vs : List ℕ} {R : Type 0} → R → Comes file (gives vs) R
  last {vs} r = giving vs r refl

  field : (at tag size : ℕ) → Due file at tag size → Comes file (field_due file at tag size) (Whole file at tag size)
  field at tag size d = by (outcome file at tag size)
    where
      by : Outcome file at tag size → Comes file (field_due file at tag size) (Whole file at tag size)
      by (is_cut c) = refusing 1 (length file) (at, tag, size, d, c, refl) (cut file at tag size c)
      by (other_tag h t) = refusing 2 at (tag, size, d, h, t) (wrong_tag file at tag size h t)
      by (other_size h t s) = refusing 4 (at + 1) (at, tag, size, d, h, t, s, refl) (wrong_size file at tag size h t s)
      by (is_whole w) = giving ((at + 3) ∷ size ∷ []) w (whole file at tag size w)

  pub sizes : Comes file (sizes_due file) (SizesRight file)
  unfolding sizes_due
  sizes =
      both (field 0 1 6 first)
      (λ w.
      both (test (outside (states_of file) (signs_of file)) 5 3 (λ e. (w, not_in_range _ _ e, refl)) (in-range _ _))
      (λ r.
      both (test (leb (states_of file) (start_of file)) 6 7 (λ e. (w, r, leb-true _ _ e, refl)) (leb-false _ _))
      (λ s. last (record { whole = w; range = r; start-in = s }))))

  pub marks : SizesRight file → Comes file (marks_due file (states_of file)) (MarksRight file)
  unfolding marks_due bad_mark
  marks s = both (field 9 2 n (second s)) (λ w. both (test (ltb bad n) 7 (12 + bad) (given w) (right w)) last)
    where
      n : ℕ
      n = states_of file

      P : ℕ → Bool
      P q = ltb 1 (get_or file (12 + q) 0)

      bad : ℕ
      bad = least n P

      is : IsLeast n P bad
      is = least_is n P

      given : Whole file 9 2 n → ltb bad n ≡ true → Given file 7 (12 + bad)
      given w e =
          (bad, s, w, ltb-true _ _ e, ltb-true _ _ (is.holds (ltb-true _ _ e)), (λ p h. ltb-false 1 (get_or file (12 + p) 0) (is.before p h)), refl)

      right : Whole file 9 2 n → ltb bad n ≡ false → MarksRight file
      right w e =
          record { sizes = s; whole = w; marks = λ q h. let l : n ≤ bad = ltb-false bad n e in ltb-false 1 (get_or file (12 + q) 0) (is.before q (omega arith)) }

  pub nexts : MarksRight file → Comes file (nexts_due file (states_of file) (states_of file * signs_of file)) (NextsRight file)
  unfolding nexts_due bad_next
  nexts s = both (field (12 + n) 3 (2 * m) (third s)) (λ w. both (test (ltb bad m) 8 (12 + n + 3 + 2 * bad) (given w) (right w)) last)
    where
      n : ℕ
      n = states_of file

      m : ℕ
      m = states_of file * signs_of file

      P : ℕ → Bool
      P i = leb n (pair_at file (12 + n + 3 + 2 * i))

      bad : ℕ
      bad = least m P

      is : IsLeast m P bad
      is = least_is m P

      given : Whole file (12 + n) 3 (2 * m) → ltb bad m ≡ true → Given file 8 (12 + n + 3 + 2 * bad)
      given w e =
          (bad, s, w, ltb-true _ _ e, leb-true _ _ (is.holds (ltb-true _ _ e)), (λ j h. leb-false n (pair_at file (12 + n + 3 + 2 * j)) (is.before j h)), refl)

      right : Whole file (12 + n) 3 (2 * m) → ltb bad m ≡ false → NextsRight file
      right w e =
          record { marks = s; whole = w; nexts = λ i h. let l : m ≤ bad = ltb-false bad m e in leb-false n (pair_at file (12 + n + 3 + 2 * i)) (is.before i (omega arith)) }

  pub comes : Comes file (judged file) (Right file)
  unfolding judged
  comes =
      both sizes
      (λ s.
      both (marks s)
      (λ t.
      both (nexts t)
      (λ u.
      both (test (ltb end (length file)) 3 end (λ e. (u, refl, ltb-true _ _ e)) (right u)) last)))
    where
      end : ℕ
      end = end_of (states_of file) (states_of file * signs_of file)

      right : NextsRight file → ltb end (length file) ≡ false → Right file
      right u e = record { fields = u; ends = let l : length file ≤ end = ltb-false end (length file) e in let b = u.whole.bodied in omega arith }

-- what gives is right
pub right_of_lem : {file : List ℕ} {s : Said} {R : Type 0} {vs : List ℕ} → Comes file s R → s ≡ gives vs → R
right_of_lem (refusing number place g e) e' = let z : ◌≡◌ {A = ℕ} 0 1 = cc in absurd (omega arith)
right_of_lem (giving vs r e) e' = r
