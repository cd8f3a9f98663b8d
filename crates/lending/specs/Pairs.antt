-- Numbers of two bytes, the high byte first.
use Rattle.std.specs.Prelude.{ℕ, ◌+◌, ◌*◌, ◌/◌, ◌%◌, List, [], ◌∷◌, get_or}

-- the number of two bytes that stands at a place
unfoldable pub pair_at : List ℕ → ℕ → ℕ
pair_at s i = get_or s i 0 * 256 + get_or s (i + 1) 0

-- the two bytes of a number
unfoldable pub pair : ℕ → List ℕ
pair x = x / 256 ∷ x % 256 ∷ []
