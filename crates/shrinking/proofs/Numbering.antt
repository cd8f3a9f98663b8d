-- Numbering the flagged classes in rising order: none yet, and one class more. Rests on the laws of `those` and `place`.
use mathlib.Core.Path.{◌≡◌, refl, sym, subst, ap, ◌∙◌}
use mathlib.Core.Logic.{◌≢◌}
use mathlib.Core.List.{List, [], ◌∷◌, ◌++◌, append-nil}
use Prim.Native.Nat.{ℕ, suc, ◌+◌, ◌≤◌, ◌<◌}
use native.Mathlib.Nat.{not-suc-le-zero}
use native.Mathlib.Numerals.{add-one}
use native.Mathlib.Decide.{ℕ_discrete}
use native.Mathlib.Omega.{arith}
use borrow.Author.Tests.{eq-eqb, ne_eqb}
use lib.Dec.{eqb}
use lib.ListN.{length, set, length-append}
use lib.Seq.{get_or-set_same, get_or-set_other, take-suc-set}
use Rattle.counting.specs.Lists.{at}
use Rattle.counting.specs.Least.{pick}
use Rattle.counting.specs.Counts.{those, place}
use Rattle.counting.proofs.Tallies.{count_most}
use Rattle.counting.proofs.Thoses.{those-length, those_pass, those_here, place_last, place_front}
use Rattle.shrinking.specs.Reached.{flagged_below, NumberedBy, Numbered}

pub numbers_none : (flags numbers rows : List ℕ) → Numbered flags 0 numbers rows 0
unfolding flagged_below those
numbers_none flags numbers rows = record { counted = refl; listed = refl; places = λ d k. absurd (not-suc-le-zero k) }

module _ (flags : List ℕ) (c count : ℕ) (numbers rows : List ℕ) (r : Numbered flags c numbers rows count) where
  abbrev xs : List ℕ
  xs = flagged_below flags c

  -- no more rows than classes
  pub rows_most : count ≤ c
  unfolding flagged_below
  rows_most = omega (arith, r.counted, those-length c (λ d. eqb (at flags d) 1), count_most c (λ d. eqb (at flags d) 1))

  -- what stands there is below c
  low : (i : ℕ) → i < length xs → at xs i < c
  unfolding flagged_below
  low i l = (those_pass c (λ d. eqb (at flags d) 1) i l).0

  here : (d : ℕ) → d < c → at flags d ≡ 1 → (i : ℕ) × (i < length xs) × (at xs i ≡ d)
  unfolding flagged_below
  here d l e = those_here c (λ d. eqb (at flags d) 1) d l (eq-eqb (at flags d) 1 e)

  module _ (f : at flags c ≡ 1) (k : c < length numbers) (l : c < length rows) where
    more : flagged_below flags (suc c) ≡ xs ++ (c ∷ [])
    unfolding flagged_below those pick
    more = rw (eq-eqb (at flags c) 1 f) refl

    places : (d : ℕ) → d < suc c → at flags d ≡ 1 → at (set numbers c count) d ≡ place (xs ++ (c ∷ [])) d
    places d m e = elim (ℕ_discrete d c) [
      | yes z ↦ rw z (get_or-set_same numbers c count 0 k ∙ r.counted ∙ sym (place_last xs c (λ i n h. absurd (omega (arith, low i n)))))
      | no z ↦
          let (i, n, h) = here d (omega arith) e in
          get_or-set_other numbers c d count 0 z ∙ r.places d (omega arith) e ∙ sym (place_front xs (c ∷ []) d i n h)
    ]

    with_row : Numbered flags (suc c) (set numbers c count) (set rows count c) (suc count)
    with_row = record {
      counted = rw more (omega (arith, r.counted, length-append xs (c ∷ [])));
      listed = take-suc-set rows count c (omega (arith, rows_most)) ∙ ap (λ (ys : List ℕ). ys ++ (c ∷ [])) r.listed ∙ sym more;
      places = rw more places;
    }

  module _ (f : at flags c ≢ 1) where
    same : flagged_below flags (suc c) ≡ xs
    unfolding flagged_below those pick
    same = rw (ne_eqb (at flags c) 1 f) (append-nil (those c (λ d. eqb (at flags d) 1)))

    without : Numbered flags (suc c) numbers rows count
    without = record {
      counted = rw same r.counted;
      listed = rw same r.listed;
      places = λ d k e. rw same (r.places d (elim (ℕ_discrete d c) [ yes z ↦ absurd (f (subst (λ (x : ℕ). at flags x ≡ 1) z e)) | no z ↦ omega arith ]) e);
    }

  pub numbers_more : c < length numbers → c < length rows → (renumbered listed : List ℕ) (now : ℕ) → NumberedBy flags c count numbers renumbered rows listed now → Numbered flags (c + 1) renumbered listed now
  numbers_more k l renumbered listed now s = elim (ℕ_discrete (at flags c) 1) [
    | yes f ↦ let (e, d, n) = s.flagged f in rw (add-one c, e, d, n, add-one count) (with_row f k l)
    | no f ↦ let (e, d, n) = s.unflagged f in rw (add-one c, e, d, n) (without f)
  ]
