-- The invariant of the entries, from what a step guarantees alone: 2 ^ (takes of a state's class with a sign), twice if it waits, times its class's size is at most n.
use mathlib.Core.Path.{◌≡◌, refl, sym, ap, ap₂, ◌∙◌}
use mathlib.Core.Logic.{◌⊎◌, inl, inr, ⊎_elim}
use mathlib.Core.Bool.{Bool, true, false, ◌&&◌, true≢false, and-true as and_right, and-false}
use Prim.Native.Nat.{ℕ, ◌+◌, ◌*◌, ◌^◌, ◌≤◌, ◌<◌}
use native.Mathlib.Nat.{add-zero, le_trans, pow-suc, mul_assoc, mul-pos, mul-le-mul_left, le-mul_of_pos_right}
use native.Mathlib.Numerals.{add-one}
use native.Mathlib.Omega.{arith}
use borrow.Author.Tests.{eq-eqb, ne_eqb, eqb-true}
use lib.Dec.{eqb}
use Rattle.counting.specs.Least.{pick}
use Rattle.counting.specs.Counts.{count}
use Rattle.counting.specs.Sums.{sum, log2}
use Rattle.counting.proofs.Sums.{sum_cong, sum_add, sum_one, sum_most, count-sum}
use Rattle.counting.proofs.Tallies.{and-true, count_mono, count_some}
use Rattle.counting.proofs.Logs.{log2_most}
use Rattle.automaton.specs.Machine.{Machine, Lawful}
use Rattle.refining.specs.Guarantee.{Guarantees, mates}

-- the takes of a state's class with a sign, one step on
unfoldable pub counted : (ℕ → ℕ) → ℕ → ℕ → (ℕ → ℕ → ℕ) → ℕ → ℕ → ℕ
counted class q a taken t b = taken t b + pick (eqb (class t) q && eqb b a) 1 0

pub record Bounded (M : Machine) (class : ℕ → ℕ) (waits : ℕ → ℕ → Bool) (taken : ℕ → ℕ → ℕ) : Type 0 where
  pub bound : (t b : ℕ) → t < M.size → b < M.signs → 2 ^ taken t b * (pick (waits (class t) b) 2 1 * mates M.size class t) ≤ M.size

-- the takes so far, summed over the next states of all states under all signs: the entries looked at
unfoldable pub looked : Machine → (ℕ → ℕ → ℕ) → ℕ
looked M taken = sum M.size (λ x. sum M.signs (λ b. taken (M.next x b) b))

factor_some : (w : Bool) → 0 < pick w 2 1
unfolding pick
factor_some true = omega arith
factor_some false = omega arith

factor_most : (w : Bool) (m m' : ℕ) → m' ≤ m → (w ≡ true → 2 * m' ≤ m) → pick w 2 1 * m' ≤ m
unfolding pick
factor_most true m m' l h = h refl
factor_most false m m' l h = omega arith

-- the bound one step on: s the pair is taken, w it waited, w' it waits, m and m' the class's sizes
onward : (s w w' : Bool) (c m m' n : ℕ) → m' ≤ m → (s ≡ true → w ≡ true) → (w' ≡ true → (w ≡ false) ⊎ (s ≡ true) → 2 * m' ≤ m)
    → 2 ^ c * (pick w 2 1 * m) ≤ n → 2 ^ (c + pick s 1 0) * (pick w' 2 1 * m') ≤ n
unfolding pick
onward true true w' c m m' n l u h k =
    rw (add-one c, pow-suc, mul_assoc) (le_trans (mul-le-mul_left (2 ^ c) (mul-le-mul_left 2 (factor_most w' m m' l (λ e. h e (inr refl))))) k)
onward true false w' c m m' n l u h k = absurd (true≢false (sym (u refl)))
onward false true w' c m m' n l u h k = rw (add-zero c) (le_trans (mul-le-mul_left (2 ^ c) (factor_most w' (2 * m) m' (omega arith) (λ e. omega arith))) k)
onward false false w' c m m' n l u h k =
    rw (add-zero c) (le_trans (mul-le-mul_left (2 ^ c) (factor_most w' (1 * m) m' (omega arith) (λ e. omega (arith, h e (inl refl))))) k)

module _ (M : Machine) (lawful : Lawful M) where
  pub step_bounded : {class class' : ℕ → ℕ} {waits waits' : ℕ → ℕ → Bool} (q a : ℕ) (taken : ℕ → ℕ → ℕ)
      → Guarantees M class waits q a class' waits' → Bounded M class waits taken → Bounded M class' waits' (counted class q a taken)
  unfolding counted mates
  step_bounded {class} {class'} {waits} {waits'} q a taken g h =
      record {
        bound = λ t b k l.
            onward (eqb (class t) q && eqb b a) (waits (class t) b) (waits' (class' t) b) (taken t b) _ _ _
            (count_mono M.size _ _ (λ x m e. eq-eqb (class x) (class t) (g.refines x t m k (eqb-true (class' x) (class' t) e))))
            (λ e. ap₂ waits (own t b e).0 (own t b e).1 ∙ g.waited)
            (λ e s. g.small t b k l e (⊎_elim inl (λ f. inr (own t b f)) s))
            (h.bound t b k l);
      }
    where
      own : (t b : ℕ) → (eqb (class t) q && eqb b a) ≡ true → (class t ≡ q) × (b ≡ a)
      own t b e =
          let (u, v) = and-true (eqb (class t) q) (eqb b a) e in
          (eqb-true (class t) q u, eqb-true b a v)

  -- a step adds its hits
  pub step_looked : (class : ℕ → ℕ) (q a : ℕ) (taken : ℕ → ℕ → ℕ) → a < M.signs
      → looked M (counted class q a taken) ≡ looked M taken + count M.size (λ x. eqb (class (M.next x a)) q)
  unfolding looked counted pick
  step_looked class q a taken l =
      sum_cong M.size _ _ (λ x k. sum_add M.signs _ _)
      ∙ sum_add M.size _ _
      ∙ ap (λ (z : ℕ). looked M taken + z) (sum_cong M.size _ _ (λ x k. hit x) ∙ sym (count-sum M.size _))
    where
      hit : (x : ℕ) → sum M.signs (λ b. pick (eqb (class (M.next x b)) q && eqb b a) 1 0) ≡ pick (eqb (class (M.next x a)) q) 1 0
      hit x = sum_one M.signs _ a l (λ b m u. rw (ne_eqb b a u, and-false)) ∙ rw (eq-eqb a a refl, and_right)

  pub bounded_looked : {class : ℕ → ℕ} {waits : ℕ → ℕ → Bool} (taken : ℕ → ℕ → ℕ) → Bounded M class waits taken → looked M taken ≤ M.size * M.signs * log2 M.size
  unfolding looked mates
  bounded_looked {class} {waits} taken h = rw mul_assoc (sum_most M.size _ _ (λ x k. sum_most M.signs _ _ (each x k)))
    where
      each : (x : ℕ) → x < M.size → (b : ℕ) → b < M.signs → taken (M.next x b) b ≤ log2 M.size
      each x k b l =
          let t : ℕ = M.next x b in
          let m : t < M.size = lawful.next_in x b k l in
          log2_most M.size (taken t b)
          (le_trans
          (le-mul_of_pos_right (2 ^ taken t b) (mul-pos (factor_some (waits (class t) b)) (count_some M.size _ t m (eq-eqb (class t) (class t) refl))))
          (h.bound t b m l))
