-- What a call leaves in a lent slice: zeros at its front, or a result at its front, and behind that what was there.
use Rattle.std.specs.Prelude.{List, ◌++◌, ℕ, length, drop, replicate}

-- the first m numbers 0, the rest as it was
unfoldable pub cleared : ℕ → List ℕ → List ℕ
cleared m lent = replicate m 0 ++ drop m lent

-- a result at the front, the rest as it was
unfoldable pub written : List ℕ → List ℕ → List ℕ
written result lent = result ++ drop (length result) lent
