-- A search: nodes are listed in the order of finding, each with the node and the sign it comes from; node 0 is the root. Nodes are gone through in order, and the signs of
-- each rising; what a sign leads to is listed, or is covered by a node that stands in the list.
use Rattle.std.specs.Prelude.{◌≡◌, ◌⊎◌, List, [], ◌∷◌, ◌++◌, ℕ, zero, suc, ◌≤◌, ◌<◌}
use Rattle.automaton.specs.Words.{Word}
use Rattle.seeking.specs.Order.{number, walk}

-- the word of a node, in at most f steps back: that of the node it comes from, and the sign
unfoldable pub word_in : (ℕ → ℕ) → (ℕ → ℕ) → ℕ → ℕ → List ℕ
word_in from by zero i = []
word_in from by (suc f) zero = []
word_in from by (suc f) (suc i) = word_in from by f (from (suc i)) ++ by (suc i) ∷ []

-- the word of a node: each comes from an earlier one, so i steps back are enough
abbrev pub word_of : (ℕ → ℕ) → (ℕ → ℕ) → ℕ → List ℕ
word_of from by i = word_in from by i i

-- each of the first nodes but the root comes from one before it
abbrev pub Earlier : (ℕ → ℕ) → ℕ → Type 0
Earlier from len = (i : ℕ) → suc i < len → from (suc i) ≤ i

-- A word that leads to a goal and goes on from a node of the list by a sign that is not gone through yet; it is not later than v.
pub record Open {A : Type 0} (step : A → ℕ → A) (Goal : A → Type 0) (k : ℕ) (root : A) (from by : ℕ → ℕ) (len head sign : ℕ) (v : List ℕ) : Type 0 where
  pub node : ℕ
  pub by_sign : ℕ
  pub rest : List ℕ
  pub listed : node < len
  pub ahead : (head < node) ⊎ ((head ≡ node) × (sign ≤ by_sign))
  pub word : Word k (by_sign ∷ rest)
  pub goal : Goal (walk step root (word_of from by node ++ by_sign ∷ rest))
  pub not-later : number k 0 (word_of from by node ++ by_sign ∷ rest) ≤ number k 0 v

-- The search stands at a sign of a node: all nodes and signs before are gone through. The words of the nodes rise, and every word that leads to a goal is still open.
pub record Search {A : Type 0} (step : A → ℕ → A) (Goal : A → Type 0) (k : ℕ) (root : A) (from by : ℕ → ℕ) (len head sign : ℕ) : Type 0 where
  pub some : 0 < len
  pub earlier : Earlier from len
  pub signs : (i : ℕ) → suc i < len → by (suc i) < k
  pub past : (i : ℕ) → suc i < len → (from (suc i) < head) ⊎ ((from (suc i) ≡ head) × (by (suc i) < sign))
  pub rise : (i j : ℕ) → i < j → j < len → number k 0 (word_of from by i) < number k 0 (word_of from by j)
  pub waits : (v : List ℕ) → Word k v → Goal (walk step root v) → Open step Goal k root from by len head sign v

-- What a sign leads to is covered: every word that leads from it to a goal leads a node of the list to one.
pub record Covered {A : Type 0} (step : A → ℕ → A) (Goal : A → Type 0) (k : ℕ) (root : A) (from by : ℕ → ℕ) (len : ℕ) (x : A) : Type 0 where
  pub node : (u : List ℕ) → Word k u → Goal (walk step x u) → (j : ℕ) × (j < len) × Goal (walk step (walk step root (word_of from by j)) u)
