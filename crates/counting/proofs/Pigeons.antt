-- An injection needs room: numbers below m that go to different numbers below n are at most n.
use mathlib.Core.Path.{◌≡◌, sym}
use mathlib.Core.Logic.{◌≢◌}
use Prim.Native.Nat.{ℕ, zero, suc, ◌≤◌, ◌<◌, ◌-◌, min, max}
use native.Mathlib.Nat.{le_antisymm}
use native.Mathlib.Omega.{arith}

-- numbers that are not v stay different where those below v go up by one
lift_le : (v x y : ℕ) → y ≢ v → max x (suc (min x v)) ≡ max y (suc (min y v)) → x ≤ y
lift_le v x y u e = omega arith

-- into the numbers from a on, below n
room_from : (m a n : ℕ) (f : ℕ → ℕ) → ((i : ℕ) → i < m → (a ≤ f i) × (f i < n)) → ((i j : ℕ) → i < m → j < m → f i ≡ f j → i ≡ j) → m ≤ n - a
room_from zero a n f inside one = omega arith
room_from (suc m) a n f inside one =
    let rest : m ≤ n - suc a = room_from m (suc a) n (λ i. max (f i) (suc (min (f i) (f m))))
    (λ i l. omega (arith, inside i (omega arith), inside m (omega arith), other i l))
    (λ i j k l e. one i j (omega arith) (omega arith) (le_antisymm (lift_le (f m) _ _ (other j l) e) (lift_le (f m) _ _ (other i k) (sym e)))) in
    omega (arith, inside m (omega arith))
  where
    other : (i : ℕ) → i < m → f i ≢ f m
    other i l e = omega (arith, one i m (omega arith) (omega arith) e)

pub injection_needs_room : (m n : ℕ) (f : ℕ → ℕ) → ((i : ℕ) → i < m → f i < n) → ((i j : ℕ) → i < m → j < m → f i ≡ f j → i ≡ j) → m ≤ n
injection_needs_room m n f inside one = omega (arith, room_from m 0 n f (λ i l. (omega arith, inside i l)) one)
