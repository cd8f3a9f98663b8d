-- Numbers of the slice filled with 0: all others are as they were.
use mathlib.Core.Path.{◌≡◌}
use mathlib.Core.List.{List}
use Prim.Native.Nat.{ℕ, ◌+◌, ◌-◌, ◌≤◌, ◌<◌}
use native.Mathlib.Omega.{arith}
use borrow.Rule.Slice.PartMut.{put_mid}
use lib.ListN.{length, set, take, drop, replicate, length-set}
use lib.Seq.{get_or-set_same, get_or-set_other}
use Rattle.std.proofs.lemmas.List.{places}
use Rattle.counting.specs.Lists.{at}

-- The numbers from one place to another are 0; all others are as they were.
pub record Zeroed (from to : ℕ) (before after : List ℕ) : Type 0 where
  pub long : length after ≡ length before
  pub zero : (i : ℕ) → from ≤ i → i < to → at after i ≡ 0
  pub below : (i : ℕ) → i < from → at after i ≡ at before i
  pub beyond : (i : ℕ) → to ≤ i → at after i ≡ at before i

pub zeroed : (from to : ℕ) (w zeros : List ℕ) → from ≤ to → to ≤ length w → zeros ≡ replicate (length (take (to - from) (drop from w))) 0 → Zeroed from to w (put_mid from (to - from) w zeros)
zeroed from to w zeros l room e = rw e record {
  long = grind (arith, places);
  zero = λ i a b. grind (arith, places);
  below = λ i a. grind (arith, places);
  beyond = λ i a. grind (arith, places);
}

-- one number set to 0
pub zeroed_one : (i : ℕ) (w : List ℕ) → i < length w → Zeroed i (i + 1) w (set w i 0)
zeroed_one i w l = record {
  long = length-set w i 0;
  zero = λ j a b. (let e : j ≡ i = omega arith in rw e (get_or-set_same w i 0 0 l));
  below = λ j a. get_or-set_other w i j 0 0 (omega arith);
  beyond = λ j a. get_or-set_other w i j 0 0 (omega arith);
}
