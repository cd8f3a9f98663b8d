-- Laws of `least`: where it stands, that it is the first, and how to show that a number is it.
use mathlib.Core.Path.{◌≡◌, refl, sym, subst, ◌∙◌}
use mathlib.Core.Bool.{Bool, true, false, true≢false}
use Prim.Native.Nat.{ℕ, zero, suc, ◌+◌, ◌≤◌, ◌<◌}
use native.Mathlib.Nat.{le_of_suc-le-suc, not-suc-le-zero}
use native.Mathlib.Omega.{arith}
use native.Mathlib.Decide.{dec_lt, ℕ_discrete}
use borrow.Author.Tests.{eq-eqb, ne_eqb}
use lib.Dec.{eqb}
use Rattle.std.specs.Prelude.{Some}
use Rattle.counting.specs.Least.{least, pick, IsFirst}
use Rattle.counting.specs.Counts.{any}
use Rattle.counting.proofs.Cases.{neither}

-- the least number is up to the bound; below it no number passes; and it passes, where it is below the bound
pub record IsLeast (n : ℕ) (P : ℕ → Bool) (i : ℕ) : Type 0 where
  pub within : i ≤ n
  pub before : (j : ℕ) → j < i → P j ≡ false
  pub holds : i < n → P i ≡ true

step : (n : ℕ) (P : ℕ → Bool) (i : ℕ) (b : Bool) → P zero ≡ b → IsLeast n (λ j. P (suc j)) i → IsLeast (suc n) P (pick b zero (suc i))
unfolding pick
step n P i true e r = record { within = omega arith; before = λ j h. absurd (not-suc-le-zero h); holds = λ h. e }
step n P i false e r =
    record { within = let h : i ≤ n = r.within in omega arith; before = before'; holds = λ h. r.holds (omega arith) }
  where
    before' : (j : ℕ) → j < suc i → P j ≡ false
    before' zero h = e
    before' (suc j) h = r.before j (le_of_suc-le-suc h)

pub least_is : (n : ℕ) (P : ℕ → Bool) → IsLeast n P (least n P)
unfolding least
least_is zero P = record { within = omega arith; before = λ j h. absurd (not-suc-le-zero h); holds = λ h. absurd (not-suc-le-zero h) }
least_is (suc n) P = step n P (least n (λ j. P (suc j))) (P zero) refl (least_is n (λ j. P (suc j)))

-- only the least number is so
pub least_unique : (n : ℕ) (P : ℕ → Bool) (i : ℕ) → IsLeast n P i → least n P ≡ i
least_unique n P i r = one (dec_lt i j) (dec_lt j i)
  where
    j : ℕ
    j = least n P

    s : IsLeast n P j
    s = least_is n P

    one : Dec (i < j) → Dec (j < i) → j ≡ i
    one (yes h) d =
        let w : j ≤ n = s.within in
        let e : P i ≡ true = r.holds (omega arith) in
        let z : ◌≡◌ {A = ℕ} 0 1 = cc (s.before i h) in
        omega arith
    one (no u) (yes h) =
        let w : i ≤ n = r.within in
        let e : P j ≡ true = s.holds (omega arith) in
        let z : ◌≡◌ {A = ℕ} 0 1 = cc (r.before j h) in
        omega arith
    one (no u) (no v) = omega arith

-- the first that passes is the least
pub least_first : (n : ℕ) (P : ℕ → Bool) (i : ℕ) → i < n → P i ≡ true → ((j : ℕ) → j < i → P j ≡ false) → least n P ≡ i
least_first n P i l t b = least_unique n P i (record { within = omega arith; before = b; holds = λ h. t })

pub first_least : {n : ℕ} {P : ℕ → Bool} (i : ℕ) → IsFirst n P (Some i) → least n P ≡ i
first_least i f = least_first _ _ i f.0 f.1 f.2

-- where none passes it is the bound
pub least_none : (n : ℕ) (P : ℕ → Bool) → ((j : ℕ) → j < n → P j ≡ false) → least n P ≡ n
least_none n P b = least_unique n P n (record { within = omega arith; before = b; holds = λ h. absurd (omega arith) })

-- tests that agree below the bound have one least
pub least_cong : (n : ℕ) (P Q : ℕ → Bool) → ((i : ℕ) → i < n → P i ≡ Q i) → least n P ≡ least n Q
least_cong n P Q h = least_unique n P j (record { within = s.within; before = λ i l. h i (below i l) ∙ s.before i l; holds = λ l. h j l ∙ s.holds l })
  where
    j : ℕ
    j = least n Q

    s : IsLeast n Q j
    s = least_is n Q

    below : (i : ℕ) → i < j → i < n
    below i l = let w : j ≤ n = s.within in omega arith

-- the least of one number more, where that one passes
pub least_at : (n : ℕ) (P : ℕ → Bool) (i : ℕ) → IsLeast n P i → P n ≡ true → IsLeast (suc n) P i
least_at n P i h e = record {
  within = omega (arith, h.within);
  before = h.before;
  holds = λ l. elim (ℕ_discrete i n) [ yes z ↦ subst (λ (j : ℕ). P j ≡ true) (sym z) e | no z ↦ h.holds (omega arith) ];
}

-- and where it does not
pub least-past : (n : ℕ) (P : ℕ → Bool) (i : ℕ) → IsLeast n P i → P n ≡ false → IsLeast (suc n) P (pick (eqb i n) (suc n) i)
unfolding pick
least-past n P i h e = elim (ℕ_discrete i n) [
  | yes z ↦
      rw (eq-eqb i n z)
      record {
        within = omega arith;
        before = λ j l. elim (ℕ_discrete j n) [ yes y ↦ subst (λ (x : ℕ). P x ≡ false) (sym y) e | no y ↦ h.before j (omega arith) ];
        holds = λ l. absurd (omega arith);
      }
  | no z ↦
      rw (ne_eqb i n z)
      record {
        within = omega (arith, h.within);
        before = h.before;
        holds = λ l. h.holds (omega (arith, h.within));
      }
]

-- a number not beyond the least that passes is it
pub least_met : (n : ℕ) (P : ℕ → Bool) (i : ℕ) → i ≤ least n P → P i ≡ true → i ≡ least n P
least_met n P i l t = elim (ℕ_discrete i (least n P)) [
  | yes e ↦ e
  | no u ↦ absurd (true≢false (sym t ∙ (least_is n P).before i (omega arith)))
]

-- the least is behind a number that is not beyond it and does not pass
pub least-later : (n : ℕ) (P : ℕ → Bool) (i : ℕ) → i ≤ least n P → i < n → P i ≡ false → i < least n P
least-later n P i l h f = elim (ℕ_discrete i (least n P)) [
  | yes e ↦ absurd (true≢false (sym ((least_is n P).holds (omega arith)) ∙ subst (λ (j : ℕ). P j ≡ false) e f))
  | no u ↦ omega arith
]

-- and behind k numbers from there on of which none passes
pub least_behind : (n : ℕ) (P : ℕ → Bool) (i k : ℕ) → i ≤ least n P → i + k ≤ n → any k (λ j. P (i + j)) ≡ false → i + k ≤ least n P
unfolding any
least_behind n P i zero l h f = omega arith
least_behind n P i (suc k) l h f =
    let none = neither (any k (λ j. P (i + j))) (P (i + k)) f in
    let further : i + k < least n P = least-later n P (i + k) (least_behind n P i k l (omega arith) none.0) (omega arith) none.1 in
    omega arith
