-- A number that rises at each of r steps has risen by r.
use Prim.Native.Nat.{ℕ, zero, suc, ◌+◌, ◌≤◌, ◌<◌}
use native.Mathlib.Omega.{arith}

pub climb : (f : ℕ → ℕ) (r : ℕ) → ((i : ℕ) → i < r → f i < f (suc i)) → r + f 0 ≤ f r
climb f zero h = omega arith
climb f (suc r) h = let u : r + f 0 ≤ f r = climb f r (λ i l. h i (omega arith)) in omega (arith, h r (omega arith))
