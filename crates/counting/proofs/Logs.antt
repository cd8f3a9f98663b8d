-- `log2` is the whole part of the logarithm to base 2.
use mathlib.Core.Path.{◌≡◌, refl}
use Prim.Native.Nat.{ℕ, zero, suc, ◌^◌, ◌≤◌, ◌<◌}
use native.Mathlib.Omega.{arith}
use native.Mathlib.Decide.{dec_lt}
use borrow.Author.Tests.{ltb-true, ltb-false}
use lib.Dec.{ltb}
use lib.Pow.{pow_mono}
use Rattle.counting.specs.Sums.{log2}
use Rattle.counting.proofs.Leasts.{IsLeast, least_is}

is : (n : ℕ) → IsLeast n (λ e. ltb n (2 ^ suc e)) (log2 n)
unfolding log2
is n = least_is n (λ e. ltb n (2 ^ suc e))

-- a number is below its power of 2
below_power : (n : ℕ) → n < 2 ^ n
below_power zero = omega arith
below_power (suc n) = omega (arith, below_power n)

pub log2_most : (n c : ℕ) → 2 ^ c ≤ n → c ≤ log2 n
log2_most n c h = by (dec_lt (log2 n) c)
  where
    by : Dec (log2 n < c) → c ≤ log2 n
    by (no u) = omega arith
    by (yes l) =
        let b : n < 2 ^ suc (log2 n) = ltb-true n (2 ^ suc (log2 n)) ((is n).holds (omega (arith, below_power c))) in
        absurd (omega (arith, pow_mono {i = suc (log2 n)} {j = c} l))

pub log2_power : (n : ℕ) → 0 < n → 2 ^ log2 n ≤ n
log2_power n h = by (log2 n) refl
  where
    by : (e : ℕ) → log2 n ≡ e → 2 ^ e ≤ n
    by zero f = omega arith
    by (suc e) f = ltb-false n (2 ^ suc e) ((is n).before e (omega arith))
