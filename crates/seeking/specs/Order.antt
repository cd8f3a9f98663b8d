-- Words in order: the shorter first, and of one length the first in sign order. The least word that leads to a goal.
use Rattle.std.specs.Prelude.{◌≡◌, List, [], ◌∷◌, ℕ, suc, ◌+◌, ◌*◌, ◌≤◌, length}
use Rattle.automaton.specs.Words.{Word}
use Rattle.automaton.specs.Telling.{NotLater}

-- the number of a word in that order, of all words over k signs; n is the number of the word before it that it continues
unfoldable pub number : ℕ → ℕ → List ℕ → ℕ
number k n [] = n
number k n (a ∷ w) = number k (suc (n * k + a)) w

-- the node that a word leads to, one sign a step
unfoldable pub walk : {A : Type 0} → (A → ℕ → A) → A → List ℕ → A
walk step x [] = x
walk step x (a ∷ w) = walk step (step x a) w

-- The word leads from a node to a goal; no shorter word does; of those of its length it is the first in sign order.
pub record Leads {A : Type 0} (step : A → ℕ → A) (Goal : A → Type 0) (k : ℕ) (x : A) (w : List ℕ) : Type 0 where
  pub word : Word k w
  pub goal : Goal (walk step x w)
  pub shortest : (v : List ℕ) → Word k v → Goal (walk step x v) → length w ≤ length v
  pub first : (v : List ℕ) → Word k v → Goal (walk step x v) → length v ≡ length w → NotLater w v
