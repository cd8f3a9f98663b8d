-- Sums over the numbers below a bound, and the whole part of the logarithm to base 2.
use Rattle.std.specs.Prelude.{ℕ, zero, suc, ◌+◌, ◌^◌, ltb}
use Rattle.counting.specs.Least.{least}

-- f 0 + f 1 + .. + f (n - 1)
unfoldable pub sum : ℕ → (ℕ → ℕ) → ℕ
sum zero f = zero
sum (suc n) f = sum n f + f n

-- the whole part of log2 n: the least e with n < 2 ^ (e + 1)
unfoldable pub log2 : ℕ → ℕ
log2 n = least n (λ e. ltb n (2 ^ suc e))
