-- Laws of `sum`: equal terms, sums of sums, exchange, one term alone, and a sum carried along a one-to-one map.
use mathlib.Core.Path.{◌≡◌, refl, sym, ap, ap₂, ◌∙◌}
use mathlib.Core.Logic.{◌≢◌}
use mathlib.Core.Bool.{Bool, true, false, ◌&&◌, true≢false}
use Prim.Native.Nat.{ℕ, zero, suc, ◌+◌, ◌*◌, ◌≤◌, ◌<◌}
use native.Mathlib.Nat.{mul-zero, suc-mul, mul-add, not-suc-le-zero}
use native.Mathlib.Decide.{ℕ_discrete}
use native.Mathlib.Omega.{arith}
use borrow.Author.Tests.{eq-eqb, ne_eqb}
use lib.Dec.{eqb}
use Rattle.counting.specs.Least.{pick}
use Rattle.counting.specs.Counts.{count}
use Rattle.counting.specs.Sums.{sum}

pub sum_cong : (n : ℕ) (f g : ℕ → ℕ) → ((i : ℕ) → i < n → f i ≡ g i) → sum n f ≡ sum n g
unfolding sum
sum_cong zero f g h = refl
sum_cong (suc n) f g h = ap₂ ◌+◌ (sum_cong n f g (λ i l. h i (omega arith))) (h n (omega arith))

pub sum_mono : (n : ℕ) (f g : ℕ → ℕ) → ((i : ℕ) → i < n → f i ≤ g i) → sum n f ≤ sum n g
unfolding sum
sum_mono zero f g h = omega arith
sum_mono (suc n) f g h = omega (arith, sum_mono n f g (λ i l. h i (omega arith)), h n (omega arith))

pub sum_most : (n c : ℕ) (f : ℕ → ℕ) → ((i : ℕ) → i < n → f i ≤ c) → sum n f ≤ n * c
unfolding sum
sum_most zero c f h = omega arith
sum_most (suc n) c f h = rw suc-mul (omega (arith, sum_most n c f (λ i l. h i (omega arith)), h n (omega arith)))

pub sum_add : (n : ℕ) (f g : ℕ → ℕ) → sum n (λ i. f i + g i) ≡ sum n f + sum n g
unfolding sum
sum_add zero f g = refl
sum_add (suc n) f g = omega (arith, sum_add n f g)

pub sum_scale : (n c : ℕ) (f : ℕ → ℕ) → sum n (λ i. c * f i) ≡ c * sum n f
unfolding sum
sum_scale zero c f = sym (mul-zero c)
sum_scale (suc n) c f = ap (λ (x : ℕ). x + c * f n) (sum_scale n c f) ∙ sym (mul-add c (sum n f) (f n))

pub sum_zero : (n : ℕ) (f : ℕ → ℕ) → ((i : ℕ) → i < n → f i ≡ 0) → sum n f ≡ 0
unfolding sum
sum_zero zero f h = refl
sum_zero (suc n) f h = omega (arith, sum_zero n f (λ i l. h i (omega arith)), h n (omega arith))

pub term_le : (n : ℕ) (f : ℕ → ℕ) (j : ℕ) → j < n → f j ≤ sum n f
unfolding sum
term_le zero f j l = absurd (not-suc-le-zero l)
term_le (suc n) f j l = elim (ℕ_discrete j n) [ yes e ↦ omega (arith, ap f e) | no u ↦ omega (arith, term_le n f j (omega arith)) ]

-- sums that agree but at one term
pub sum_change : (n : ℕ) (f g : ℕ → ℕ) (j : ℕ) → j < n → ((i : ℕ) → i < n → i ≢ j → f i ≡ g i) → sum n f + g j ≡ sum n g + f j
unfolding sum
sum_change zero f g j l h = absurd (not-suc-le-zero l)
sum_change (suc n) f g j l h = elim (ℕ_discrete j n) [
  | yes e ↦ omega (arith, ap f e, ap g e, sum_cong n f g (λ i k. h i (omega arith) (omega arith)))
  | no u ↦ omega (arith, sum_change n f g j (omega arith) (λ i k. h i (omega arith)), h n (omega arith) (omega arith))
]

-- one term that may not be 0
pub sum_one : (n : ℕ) (f : ℕ → ℕ) (j : ℕ) → j < n → ((i : ℕ) → i < n → i ≢ j → f i ≡ 0) → sum n f ≡ f j
sum_one n f j l h = omega (arith, sum_change n f (λ i. 0) j l h, sum_zero n (λ i. 0) (λ i k. refl))

pub sum_swap : (n m : ℕ) (f : ℕ → ℕ → ℕ) → sum n (λ i. sum m (λ j. f i j)) ≡ sum m (λ j. sum n (λ i. f i j))
unfolding sum
sum_swap zero m f = sym (sum_zero m (λ j. 0) (λ j l. refl))
sum_swap (suc n) m f = ap (λ (x : ℕ). x + sum m (λ j. f n j)) (sum_swap n m f) ∙ sym (sum_add m (λ j. sum n (λ i. f i j)) (f n))

pub count-sum : (n : ℕ) (P : ℕ → Bool) → count n P ≡ sum n (λ i. pick (P i) 1 0)
unfolding sum count
count-sum zero P = refl
count-sum (suc n) P = ap (λ (x : ℕ). x + pick (P n) 1 0) (count-sum n P)

-- where `to` carries those of one kind one to one to those of another, sums over the two agree
module _ (n : ℕ) (from onto : ℕ → Bool) (to : ℕ → ℕ) (g : ℕ → ℕ)
    (inside : (r : ℕ) → r < n → from r ≡ true → (to r < n) × (onto (to r) ≡ true))
    (here : (p : ℕ) → p < n → onto p ≡ true → (r : ℕ) × (r < n) × (from r ≡ true) × (to r ≡ p))
    (one : (r s : ℕ) → r < n → s < n → from r ≡ true → from s ≡ true → to r ≡ to s → r ≡ s) where
  -- what r gives to p
  share : ℕ → ℕ → ℕ
  share r p = pick (from r && eqb (to r) p) (g p) 0

  share_own : (r p : ℕ) → from r ≡ true → to r ≡ p → share r p ≡ g p
  unfolding share pick
  share_own r p f e = rw (f, eq-eqb (to r) p e)

  share_none : (r p : ℕ) → ((from r ≡ true) × (to r ≡ p) → ⊥) → share r p ≡ 0
  unfolding share pick
  share_none r p u = by (from r) refl (ℕ_discrete (to r) p)
    where
      by : (b : Bool) → from r ≡ b → Dec (to r ≡ p) → pick (from r && eqb (to r) p) (g p) 0 ≡ 0
      by true f (yes e) = absurd (u (f, e))
      by true f (no v) = rw (f, ne_eqb (to r) p v)
      by false f d = rw f

  gives : (r : ℕ) → r < n → sum n (share r) ≡ pick (from r) (g (to r)) 0
  unfolding pick
  gives r l = by (from r) refl
    where
      by : (b : Bool) → from r ≡ b → sum n (share r) ≡ pick b (g (to r)) 0
      by true f = sum_one n (share r) (to r) (inside r l f).0 (λ p k u. share_none r p (λ h. u (sym h.1))) ∙ share_own r (to r) f refl
      by false f = sum_zero n (share r) (λ p k. share_none r p (λ h. true≢false (sym h.0 ∙ f)))

  takes : (p : ℕ) → p < n → sum n (λ r. share r p) ≡ pick (onto p) (g p) 0
  unfolding pick
  takes p l = by (onto p) refl
    where
      by : (b : Bool) → onto p ≡ b → sum n (λ r. share r p) ≡ pick b (g p) 0
      by true o =
          let (r, k, f, e) = here p l o in
          sum_one n (λ r. share r p) r k (λ s m u. share_none s p (λ h. u (one s r m k h.0 f (h.1 ∙ sym e)))) ∙ share_own r p f e
      by false o =
          sum_zero n (λ r. share r p) (λ r k. share_none r p (λ h. true≢false (sym (inside r k h.0).1 ∙ ap onto h.1 ∙ o)))

  pub sum_carried : sum n (λ r. pick (from r) (g (to r)) 0) ≡ sum n (λ p. pick (onto p) (g p) 0)
  sum_carried = sum_cong n _ _ (λ r l. sym (gives r l)) ∙ sum_swap n n share ∙ sum_cong n _ _ takes
