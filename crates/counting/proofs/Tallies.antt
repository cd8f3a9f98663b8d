-- Laws of `all`, `any`, `agree` and `count`: what they say of each number below the bound, and how counts compare.
use mathlib.Core.Path.{◌≡◌, refl, sym, ap, ap₂, ◌∙◌}
use mathlib.Core.Logic.{◌↔◌}
use mathlib.Core.Bool.{Bool, true, false, not, ◌&&◌, ◌||◌, true≢false, or-true}
use mathlib.Core.List.{List}
use Prim.Native.Nat.{ℕ, zero, suc, ◌+◌, ◌≤◌, ◌<◌}
use native.Mathlib.Nat.{not-suc-le-zero}
use native.Mathlib.Decide.{ℕ_discrete}
use native.Mathlib.Omega.{arith}
use borrow.Author.Tests.{eq-eqb, ne_eqb, eqb-true}
use lib.Dec.{eqb}
use lib.ListN.{length}
use lib.Seq.{ext_get_or}
use Rattle.counting.specs.Lists.{at}
use Rattle.counting.specs.Least.{pick}
use Rattle.counting.specs.Counts.{all, any, count, agree}

-- a number below n + 1 is n or below n
below : {A : Type 0} (n i : ℕ) → i < suc n → (i ≡ n → A) → (i < n → A) → A
below n i l here under = elim (ℕ_discrete i n) [ yes e ↦ here e | no u ↦ under (omega arith) ]

pub and-true : (a b : Bool) → (a && b) ≡ true → (a ≡ true) × (b ≡ true)
and-true true b e = (refl, e)
and-true false b e = absurd (true≢false (sym e))

pub all_iff : (n : ℕ) (P : ℕ → Bool) → (all n P ≡ true) ↔ ((i : ℕ) → i < n → P i ≡ true)
unfolding all
all_iff zero P = ((λ e i l. absurd (not-suc-le-zero l)), (λ h. refl))
all_iff (suc n) P =
    let rest = all_iff n P in (
      (λ e i l. below n i l (λ m. ap P m ∙ (and-true (all n P) (P n) e).1) (λ m. rest.0 (and-true (all n P) (P n) e).0 i m)),
      (λ h. ap₂ ◌&&◌ (rest.1 (λ i l. h i (omega arith))) (h n (omega arith))),
    )

-- one that does not pass is enough
pub all_fails : (n : ℕ) (P : ℕ → Bool) (i : ℕ) → i < n → P i ≡ false → all n P ≡ false
all_fails n P i l e = by (all n P) refl
  where
    by : (b : Bool) → all n P ≡ b → all n P ≡ false
    by true f = absurd (true≢false (sym ((all_iff n P).0 f i l) ∙ e))
    by false f = f

-- where not all pass, one is found that does not
pub all_false : (n : ℕ) (P : ℕ → Bool) → all n P ≡ false → (i : ℕ) × (i < n) × (P i ≡ false)
unfolding all
all_false zero P e = absurd (true≢false e)
all_false (suc n) P e = go (all n P) (P n) refl (all_false n P) e
  where
    go : (a b : Bool) → P n ≡ b → (a ≡ false → (i : ℕ) × (i < n) × (P i ≡ false)) → (a && b) ≡ false → (i : ℕ) × (i < suc n) × (P i ≡ false)
    go true b q r f = (n, omega arith, q ∙ f)
    go false b q r f =
        let (i, l, h) = r refl in
        (i, omega arith, h)

pub any_iff : (n : ℕ) (P : ℕ → Bool) → (any n P ≡ true) ↔ ((i : ℕ) × (i < n) × (P i ≡ true))
unfolding any
any_iff zero P = ((λ e. absurd (true≢false (sym e))), (λ h. absurd (not-suc-le-zero h.1)))
any_iff (suc n) P = (from (any n P) (P n) refl (any_iff n P).0, to (any_iff n P).1)
  where
    from : (a b : Bool) → P n ≡ b → (a ≡ true → (i : ℕ) × (i < n) × (P i ≡ true)) → (a || b) ≡ true → (i : ℕ) × (i < suc n) × (P i ≡ true)
    from true b q r f =
        let (i, l, h) = r refl in
        (i, omega arith, h)
    from false b q r f = (n, omega arith, q ∙ f)

    to : ((i : ℕ) × (i < n) × (P i ≡ true) → any n P ≡ true) → (i : ℕ) × (i < suc n) × (P i ≡ true) → (any n P || P n) ≡ true
    to r (i, l, h) =
        below n i l (λ e. ap (λ (b : Bool). any n P || b) (ap P (sym e) ∙ h) ∙ or-true (any n P)) (λ m. ap (λ (b : Bool). b || P n) (r (i, m, h)))

-- tests that agree pass together
pub any_cong : (n : ℕ) (P Q : ℕ → Bool) → ((i : ℕ) → i < n → P i ≡ Q i) → any n P ≡ any n Q
unfolding any
any_cong zero P Q h = refl
any_cong (suc n) P Q h = ap₂ ◌||◌ (any_cong n P Q (λ i l. h i (omega arith))) (h n (omega arith))

-- of lists of n numbers
pub agree_iff : (n : ℕ) (xs ys : List ℕ) → length xs ≡ n → length ys ≡ n → (agree n xs ys ≡ true) ↔ (xs ≡ ys)
unfolding agree
agree_iff n xs ys l m = (
  (λ e. ext_get_or 0 xs ys (l ∙ sym m) (λ i k. eqb-true _ _ ((all_iff n (λ i. eqb (at xs i) (at ys i))).0 e i (omega arith)))),
  (λ e. (all_iff n (λ i. eqb (at xs i) (at ys i))).1 (λ i k. eq-eqb _ _ (ap (λ (zs : List ℕ). at zs i) e))),
)

part_most : (b : Bool) → pick b 1 0 ≤ 1
unfolding pick
part_most true = omega arith
part_most false = omega arith

pub count_most : (n : ℕ) (P : ℕ → Bool) → count n P ≤ n
unfolding count
count_most zero P = omega arith
count_most (suc n) P = omega (arith, count_most n P, part_most (P n))

pub count_cong : (n : ℕ) (P Q : ℕ → Bool) → ((i : ℕ) → i < n → P i ≡ Q i) → count n P ≡ count n Q
unfolding count
count_cong zero P Q h = refl
count_cong (suc n) P Q h = ap₂ (λ (x : ℕ) (b : Bool). x + pick b 1 0) (count_cong n P Q (λ i l. h i (omega arith))) (h n (omega arith))

-- one number's part of a count
part_mono : (a b : Bool) → (a ≡ true → b ≡ true) → pick a 1 0 ≤ pick b 1 0
unfolding pick
part_mono true true h = omega arith
part_mono true false h = absurd (true≢false (sym (h refl)))
part_mono false b h = omega arith

-- what passes the one passes the other
pub count_mono : (n : ℕ) (P Q : ℕ → Bool) → ((i : ℕ) → i < n → P i ≡ true → Q i ≡ true) → count n P ≤ count n Q
unfolding count
count_mono zero P Q h = omega arith
count_mono (suc n) P Q h =
    omega (arith, count_mono n P Q (λ i l. h i (omega arith)), part_mono (P n) (Q n) (h n (omega arith)))

-- and one number more passes the other
pub count_more : (n : ℕ) (P Q : ℕ → Bool) → ((i : ℕ) → i < n → P i ≡ true → Q i ≡ true) → (j : ℕ) → j < n → P j ≡ false → Q j ≡ true → count n P < count n Q
unfolding count pick
count_more zero P Q h j l p q = absurd (not-suc-le-zero l)
count_more (suc n) P Q h j l p q =
    below n j l
    (λ e.
    let p' : P n ≡ false = ap P (sym e) ∙ p in
    let q' : Q n ≡ true = ap Q (sym e) ∙ q in
    rw (p', q') (omega (arith, count_mono n P Q (λ i k. h i (omega arith)))))
    (λ m. omega (arith, count_more n P Q (λ i k. h i (omega arith)) j m p q, part_mono (P n) (Q n) (h n (omega arith))))

pub count_some : (n : ℕ) (P : ℕ → Bool) (j : ℕ) → j < n → P j ≡ true → 0 < count n P
count_some n P j l p = omega (arith, count_more n (λ i. false) P (λ i k e. absurd (true≢false (sym e))) j l refl p)

-- where at most one passes, two that pass are one
pub count_one : (n : ℕ) (P : ℕ → Bool) → count n P ≤ 1 → (i j : ℕ) → i < n → j < n → P i ≡ true → P j ≡ true → i ≡ j
count_one n P h i j l m p q = elim (ℕ_discrete j i) [ yes e ↦ sym e | no u ↦ absurd (omega (arith, one, more u)) ]
  where
    one : 0 < count n (λ k. eqb k i)
    one = count_some n _ i l (eq-eqb i i refl)

    more : (j ≡ i → ⊥) → count n (λ k. eqb k i) < count n P
    more u = count_more n _ _ (λ k s e. ap P (eqb-true k i e) ∙ p) j m (ne_eqb j i u) q

pub count_none : (n : ℕ) (P : ℕ → Bool) → ((i : ℕ) → i < n → P i ≡ false) → count n P ≡ 0
unfolding count pick
count_none zero P h = refl
count_none (suc n) P h = rw (h n (omega arith)) (omega (arith, count_none n P (λ i l. h i (omega arith))))

part_disjoint : (a b : Bool) → (a ≡ true → b ≡ false) → pick a 1 0 + pick b 1 0 ≤ 1
unfolding pick
part_disjoint true true h = absurd (true≢false (h refl))
part_disjoint true false h = omega arith
part_disjoint false true h = omega arith
part_disjoint false false h = omega arith

-- no number passes both
pub count_disjoint : (n : ℕ) (P Q : ℕ → Bool) → ((i : ℕ) → i < n → P i ≡ true → Q i ≡ false) → count n P + count n Q ≤ n
unfolding count
count_disjoint zero P Q h = omega arith
count_disjoint (suc n) P Q h =
    omega (arith, count_disjoint n P Q (λ i l. h i (omega arith)), part_disjoint (P n) (Q n) (h n (omega arith)))

-- a count that is not 0 has counted one
pub count_found : (n : ℕ) (P : ℕ → Bool) → 0 < count n P → (i : ℕ) × (i < n) × (P i ≡ true)
unfolding count pick
count_found zero P h = absurd (omega arith)
count_found (suc n) P h = go (P n) refl (count_found n P) h
  where
    go : (b : Bool) → P n ≡ b → (0 < count n P → (i : ℕ) × (i < n) × (P i ≡ true)) → 0 < count n P + pick b 1 0 → (i : ℕ) × (i < suc n) × (P i ≡ true)
    go true e r g = (n, omega arith, e)
    go false e r g =
        let (i, l, p) = r (omega arith) in
        (i, omega arith, p)

part_split : (a b : Bool) → pick (a && not b) 1 0 + pick (a && b) 1 0 ≡ pick a 1 0
unfolding pick
part_split true true = refl
part_split true false = refl
part_split false b = refl

-- what passes does not pass another test, or does
pub count_split : (n : ℕ) (P Q : ℕ → Bool) → count n (λ i. P i && not (Q i)) + count n (λ i. P i && Q i) ≡ count n P
unfolding count
count_split zero P Q = refl
count_split (suc n) P Q = omega (arith, count_split n P Q, part_split (P n) (Q n))
