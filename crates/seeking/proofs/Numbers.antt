-- Laws of the number of a word: shorter words have smaller numbers, and of one length those that are earlier in sign order. So the word of the least number is the one sought.
use mathlib.Core.Path.{◌≡◌, refl}
use mathlib.Core.Logic.{inl, inr}
use mathlib.Core.List.{List, [], ◌∷◌, ◌++◌}
use Prim.Native.Nat.{ℕ, suc, ◌+◌, ◌*◌, ◌≤◌, ◌<◌}
use native.Mathlib.Decide.{dec_lt, ℕ_discrete}
use native.Mathlib.Omega.{arith}
use native.Mathlib.Nat.{mul-le-mul_left, mul-le-mul_right}
use lib.ListN.{length}
use Rattle.automaton.specs.Words.{Word}
use Rattle.automaton.specs.Telling.{NotLater}
use Rattle.seeking.specs.Order.{number, walk, Leads}

pub walk-append : {A : Type 0} (step : A → ℕ → A) (x : A) (u v : List ℕ) → walk step x (u ++ v) ≡ walk step (walk step x u) v
unfolding walk
walk-append step x [] v = refl
walk-append step x (a ∷ u) v = walk-append step (step x a) u v

pub number_append : (k n : ℕ) (u v : List ℕ) → number k n (u ++ v) ≡ number k (number k n u) v
unfolding number
number_append k n [] v = refl
number_append k n (a ∷ u) v = number_append k (suc (n * k + a)) u v

-- an earlier word goes before a later one whatever sign follows
pub sign_rises : (k n m a b : ℕ) → n < m → a < k → suc (n * k + a) < suc (m * k + b)
sign_rises k n m a b h l = omega (arith, mul-le-mul_right k h)

-- of one length: an earlier beginning goes before a later one whatever follows
pub number_rises : (k n m : ℕ) (u v : List ℕ) → n < m → length u ≡ length v → Word k u → number k n u < number k m v
unfolding number
number_rises k n m [] [] h e w = h
number_rises k n m [] (b ∷ v) h e w = absurd (omega arith)
number_rises k n m (a ∷ u) [] h e w = absurd (omega arith)
number_rises k n m (a ∷ u) (b ∷ v) h e w = number_rises k (suc (n * k + a)) (suc (m * k + b)) u v (sign_rises k n m a b h w.0) (omega arith) w.1

-- a word has no smaller number than the one it continues
pub number_grows : (k n : ℕ) (u : List ℕ) → Word k u → n ≤ number k n u
unfolding number
number_grows k n [] w = omega arith
number_grows k n (a ∷ u) w = omega (arith, number_grows k (suc (n * k + a)) u w.1, mul-le-mul_left n w.0)

number_shorter : (k n m : ℕ) (u v : List ℕ) → n ≤ m → length u < length v → Word k u → Word k v → number k n u < number k m v
unfolding number
number_shorter k n m u [] h l w z = absurd (omega arith)
number_shorter k n m u (b ∷ v) h l w z =
    let more : n < suc (m * k + b) = omega (arith, mul-le-mul_left m z.0) in
    elim (ℕ_discrete (length u) (length v)) [
      | yes e ↦ number_rises k n (suc (m * k + b)) u v more e w
      | no d ↦ number_shorter k n (suc (m * k + b)) u v (omega arith) (omega arith) w z.1
    ]

number-first : (k n : ℕ) (u v : List ℕ) → length v ≡ length u → Word k u → Word k v → number k n u ≤ number k n v → NotLater u v
unfolding number
number-first k n [] v e w z h = tt
number-first k n (a ∷ u) [] e w z h = absurd (omega arith)
number-first k n (a ∷ u) (b ∷ v) e w z h =
    elim (dec_lt a b) [
      | yes l ↦ inl l
      | no l ↦
          elim (dec_lt b a) [
            | yes m ↦
                let s : number k (suc (n * k + b)) v < number k (suc (n * k + a)) u = number_rises k (suc (n * k + b)) (suc (n * k + a)) v u (omega arith) (omega arith) z.1 in
                absurd (omega arith)
            | no m ↦
                let s : a ≡ b = omega arith in
                inr (s, number-first k (suc (n * k + a)) u v (omega arith) w.1 z.1 (rw (← s) at h))
          ]
    ]

-- the word of the least number that leads to a goal is the shortest, and the first of those
pub leads-least : {A : Type 0} (step : A → ℕ → A) (Goal : A → Type 0) (k : ℕ) (x : A) (w : List ℕ) → Word k w → Goal (walk step x w)
    → ((v : List ℕ) → Word k v → Goal (walk step x v) → number k 0 w ≤ number k 0 v)
    → Leads step Goal k x w
leads-least step Goal k x w z g h = record {
  word = z;
  goal = g;
  shortest = λ v y l.
      elim (dec_lt (length v) (length w)) [
        | yes s ↦
            let r : number k 0 v < number k 0 w = number_shorter k 0 0 v w (omega arith) s y z in
            let m : number k 0 w ≤ number k 0 v = h v y l in
            absurd (omega arith)
        | no s ↦ omega arith
      ];
  first = λ v y l e. number-first k 0 w v e z y (h v y l);
}
