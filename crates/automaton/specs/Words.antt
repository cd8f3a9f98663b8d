-- Words, the state that a word leads to, and when two states or two machines are the same to every word.
use Rattle.std.specs.Prelude.{◌≡◌, ◌↔◌, List, [], ◌∷◌, ℕ, ◌≤◌, ◌<◌, length}
use Rattle.automaton.specs.Machine.{Machine}

-- a word: a list of signs, each below k
abbrev pub Word : ℕ → List ℕ → Type 0
Word k [] = Unit {0}
Word k (a ∷ w) = (a < k) × Word k w

-- the state that a word leads to, one sign a step
unfoldable pub steps : Machine → ℕ → List ℕ → ℕ
steps M q [] = q
steps M q (a ∷ w) = steps M (M.next q a) w

-- the kind of the state that a word leads to
abbrev pub ends : Machine → ℕ → List ℕ → ℕ
ends M q w = M.kind (steps M q w)

-- no word ends in different kinds from the two states
pub record Same (M : Machine) (p q : ℕ) : Type 0 where
  pub word : (w : List ℕ) → Word M.signs w → ends M p w ≡ ends M q w

-- no word of at most i signs does
pub record SameUpTo (M : Machine) (i p q : ℕ) : Type 0 where
  pub word : (w : List ℕ) → Word M.signs w → length w ≤ i → ends M p w ≡ ends M q w

-- Watson's words, for marks: no word is accepted from one of them only
pub record Inseparable (M : Machine) (p q : ℕ) : Type 0 where
  pub word : (w : List ℕ) → Word M.signs w → (ends M p w ≡ 1) ↔ (ends M q w ≡ 1)

-- every kind is a mark, 0 or 1
abbrev pub Marked : Machine → Type 0
Marked M = (q : ℕ) → q < M.size → M.kind q ≤ 1

-- two machines over the same signs give every word the same kind
pub record Equivalent (M N : Machine) : Type 0 where
  pub signs : M.signs ≡ N.signs
  pub word : (w : List ℕ) → Word M.signs w → ends M M.start w ≡ ends N N.start w

-- a word leads from the start to the state
pub record Reached (M : Machine) (q : ℕ) : Type 0 where
  pub by : List ℕ
  pub word : Word M.signs by
  pub leads : steps M M.start by ≡ q
