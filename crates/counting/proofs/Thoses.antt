-- Laws of `those` and `place`: which numbers stand in the list, that they rise, and where a number stands.
use mathlib.Core.Path.{◌≡◌, refl, sym, ap₂, ◌∙◌}
use mathlib.Core.Bool.{Bool, true, false}
use mathlib.Core.List.{List, [], ◌∷◌, ◌++◌, append-nil}
use Prim.Native.Nat.{ℕ, zero, suc, ◌+◌, ◌<◌}
use native.Mathlib.Nat.{add-zero}
use native.Mathlib.Numerals.{add-one}
use native.Mathlib.Omega.{arith}
use native.Mathlib.Decide.{ℕ_discrete, dec_lt}
use borrow.Author.Tests.{eq-eqb, ne_eqb, eqb-true, eqb-false}
use lib.Dec.{eqb}
use lib.ListN.{length, length-append, get_or-append}
use lib.Seq.{get_or-append_seam}
use Rattle.counting.specs.Lists.{at, tab}
use Rattle.counting.specs.Least.{pick}
use Rattle.counting.specs.Counts.{those, place, count}
use Rattle.counting.proofs.Leasts.{IsLeast, least_is, least_first}
use Rattle.counting.proofs.Tabs.{tab_add}

-- a list is the numbers below n that pass, rising
record IsThose (n : ℕ) (P : ℕ → Bool) (xs : List ℕ) : Type 0 where
  pass : (i : ℕ) → i < length xs → (at xs i < n) × (P (at xs i) ≡ true)
  here : (q : ℕ) → q < n → P q ≡ true → (i : ℕ) × (i < length xs) × (at xs i ≡ q)
  rise : (i j : ℕ) → i < j → j < length xs → at xs i < at xs j

-- what holds at the places of a list and of one element more holds at the places of both
at_snoc : (xs : List ℕ) (x : ℕ) (Q : ℕ → ℕ → Type 0) → ((i : ℕ) → i < length xs → Q i (at xs i)) → Q (length xs) x → (i : ℕ) → i < length (xs ++ (x ∷ [])) → Q i (at (xs ++ (x ∷ [])) i)
at_snoc xs x Q h t i l = elim (dec_lt i (length xs)) [
  | yes k ↦ rw get_or-append (h i k)
  | no u ↦ let d : i ≡ length xs = omega (arith, length-append xs (x ∷ [])) in rw (d, get_or-append_seam) t
]

step : (n : ℕ) (P : ℕ → Bool) (xs : List ℕ) (b : Bool) → P n ≡ b → IsThose n P xs → IsThose (suc n) P (xs ++ pick b (n ∷ []) [])
unfolding pick
step n P xs true e r = record {
  pass = at_snoc xs n (λ i x. (x < suc n) × (P x ≡ true)) (λ i l. (omega (arith, (r.pass i l).0), (r.pass i l).1)) (omega arith, e);
  here = λ q l p. elim (ℕ_discrete q n) [
    | yes d ↦ (length xs, omega (arith, more), get_or-append_seam xs n [] 0 ∙ sym d)
    | no u ↦ let o = r.here q (omega arith) p in (o.0, omega (arith, more), get_or-append xs _ 0 o.0 o.1 ∙ o.2)
  ];
  rise = λ i j l m. at_snoc xs n (λ j x. i < j → at (xs ++ (n ∷ [])) i < x)
      (λ j k l. rw (get_or-append xs (n ∷ []) 0 i (omega arith)) (r.rise i j l k))
      (λ l. rw (get_or-append xs (n ∷ []) 0 i l) (r.pass i l).0) j m l;
}
  where
    more : length (xs ++ (n ∷ [])) ≡ length xs + 1
    more = length-append xs (n ∷ [])
step n P xs false e r = rw append-nil (record {
  pass = λ i l. (omega (arith, (r.pass i l).0), (r.pass i l).1);
  here = λ q l p. r.here q (elim (ℕ_discrete q n) [ yes d ↦ absurd (let z : ◌≡◌ {A = ℕ} 0 1 = cc in omega arith) | no u ↦ omega arith ]) p;
  rise = r.rise;
})

those_is : (n : ℕ) (P : ℕ → Bool) → IsThose n P (those n P)
unfolding those
those_is zero P = record { pass = λ i l. absurd (omega arith); here = λ q l. absurd (omega arith); rise = λ i j k l. absurd (omega arith) }
those_is (suc n) P = step n P (those n P) (P n) refl (those_is n P)

length-count : (n : ℕ) (P : ℕ → Bool) → length (those n P) ≡ count n P
unfolding those count pick
length-count zero P = refl
length-count (suc n) P =
    rw (length-append, length-count n P)
    (elim (P n) as (λ b. count n P + length (pick b (n ∷ []) []) ≡ count n P + pick b 1 0) [ true ↦ refl | false ↦ refl ])

all-those : (n : ℕ) (P : ℕ → Bool) → ((q : ℕ) → q < n → P q ≡ true) → those n P ≡ tab n (λ q. q)
unfolding those tab pick
all-those zero P h = refl
all-those (suc n) P h =
    rw (h n (omega arith), all-those n P (λ q l. h q (omega arith)))
    (sym (rw (add-one n, add-zero n) at (tab_add n 1 (λ q. q))))

-- tests that agree have one list
pub those_cong : (n : ℕ) (P Q : ℕ → Bool) → ((q : ℕ) → q < n → P q ≡ Q q) → those n P ≡ those n Q
unfolding those
those_cong zero P Q h = refl
those_cong (suc n) P Q h =
    ap₂ (λ (xs : List ℕ) (b : Bool). xs ++ pick b (n ∷ []) []) (those_cong n P Q (λ q l. h q (omega arith))) (h n (omega arith))

module _ (n : ℕ) (P : ℕ → Bool) where
  pub those-length : length (those n P) ≡ count n P
  those-length = length-count n P

  -- what stands there passes
  pub those_pass : (i : ℕ) → i < length (those n P) → (at (those n P) i < n) × (P (at (those n P) i) ≡ true)
  those_pass = (those_is n P).pass

  -- what passes stands there
  pub those_here : (q : ℕ) → q < n → P q ≡ true → (i : ℕ) × (i < length (those n P)) × (at (those n P) i ≡ q)
  those_here = (those_is n P).here

  pub those_rise : (i j : ℕ) → i < j → j < length (those n P) → at (those n P) i < at (those n P) j
  those_rise = (those_is n P).rise

  -- where all pass the list is 0, 1, 2, ..
  pub those-all : ((q : ℕ) → q < n → P q ≡ true) → those n P ≡ tab n (λ q. q)
  those-all = all-those n P

-- a number that stands in a list stands at its place
pub place_here : (xs : List ℕ) (i : ℕ) → i < length xs → (place xs (at xs i) < length xs) × (at xs (place xs (at xs i)) ≡ at xs i)
unfolding place
place_here xs i l = elim (dec_lt (place xs (at xs i)) (length xs)) [
  | yes w ↦ (w, eqb-true _ _ (r.holds w))
  | no u ↦ absurd (eqb-false (at xs i) (at xs i) (r.before i (omega arith)) refl)
]
  where
    r : IsLeast (length xs) (λ j. eqb (at xs j) (at xs i)) (place xs (at xs i))
    r = least_is _ _

-- a number that stands in a list has its place there, whatever follows
pub place_front : (xs ys : List ℕ) (c i : ℕ) → i < length xs → at xs i ≡ c → place (xs ++ ys) c ≡ place xs c
unfolding place
place_front xs ys c i l e =
    let f : at xs (place xs c) ≡ c = rw e at (place_here xs i l).1 in
    let m : place xs c < length xs = rw e at (place_here xs i l).0 in
    least_first (length (xs ++ ys)) _ (place xs c) (omega (arith, length-append xs ys))
    (eq-eqb _ c (get_or-append xs ys 0 (place xs c) m ∙ f))
    (λ j k. rw (get_or-append xs ys 0 j (omega arith)) ((least_is (length xs) (λ j. eqb (at xs j) c)).before j k))

-- a number that does not stand there is placed at the end
pub place_last : (xs : List ℕ) (c : ℕ) → ((i : ℕ) → i < length xs → at xs i ≡ c → ⊥) → place (xs ++ (c ∷ [])) c ≡ length xs
unfolding place
place_last xs c h =
    least_first (length (xs ++ (c ∷ []))) _ (length xs) (omega (arith, length-append xs (c ∷ [])))
    (eq-eqb _ c (get_or-append_seam xs c [] 0))
    (λ j k. rw (get_or-append xs (c ∷ []) 0 j k) (ne_eqb (at xs j) c (h j k)))
