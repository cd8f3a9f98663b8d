-- The two bytes of a number: read at a place, and written again. Rests on the digits of a number.
use mathlib.Core.Path.{◌≡◌, ap₂, ◌∙◌}
use mathlib.Core.List.{List, [], ◌∷◌}
use Prim.Native.Nat.{ℕ, ◌+◌, ◌*◌, ◌<◌}
use native.Mathlib.Nat.{add_assoc, div-add-mod'}
use native.Mathlib.Omega.{arith}
use lib.Arith.{digits_div, digits_mod}
use lib.ListN.{get_or, drop}
use lib.Seq.{get_or-drop}
use Rattle.counting.proofs.Alls.{Every, every_none, every_cons}
use Rattle.lending.specs.Pairs.{pair_at, pair}

-- what stands in a list from a place on
pub pair-drop : (n : ℕ) (s : List ℕ) (i : ℕ) → pair_at s (n + i) ≡ pair_at (drop n s) i
unfolding pair_at
pair-drop n s i = rw (get_or-drop n s i 0, get_or-drop n s (i + 1) 0, ← add_assoc n i 1)

-- a number stands where its two bytes do
pub pair_read : (x : ℕ) (s : List ℕ) (i : ℕ) → get_or s i 0 ≡ get_or (pair x) 0 0 → get_or s (i + 1) 0 ≡ get_or (pair x) 1 0 → pair_at s i ≡ x
unfolding pair_at pair
pair_read x s i h l = ap₂ (λ (x y : ℕ). x * 256 + y) h l ∙ div-add-mod' x 256

-- the number of two bytes is written as them
pub pair-written : (s : List ℕ) (i : ℕ) → get_or s (i + 1) 0 < 256 → pair (pair_at s i) ≡ get_or s i 0 ∷ get_or s (i + 1) 0 ∷ []
unfolding pair_at pair
pair-written s i l = ap₂ (λ (x y : ℕ). x ∷ y ∷ []) (digits_div (get_or s i 0) l) (digits_mod (get_or s i 0) l)

-- the two bytes of a number of two bytes are bytes
pub pair_bytes : (x : ℕ) → x < 65536 → Every (λ b. b < 256) 0 (pair x)
unfolding pair
pair_bytes x l = every_cons (omega arith) (every_cons (omega arith) (every_none (omega arith)))
