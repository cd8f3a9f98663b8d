-- The word that tells two states apart: at the depth where their layers part, the least sign whose next states part one layer before.
use Rattle.std.specs.Prelude.{◌≡◌, ◌≢◌, ◌⊎◌, not, List, [], ◌∷◌, ℕ, zero, suc, ◌≤◌, ◌<◌, eqb, ltb, length}
use Rattle.counting.specs.Lists.{at}
use Rattle.counting.specs.Least.{pick, least}
use Rattle.automaton.specs.Machine.{Machine}
use Rattle.automaton.specs.Words.{Word, ends}
use Rattle.automaton.specs.Layers.{layer, rounds}

-- the least layer in which two states have different names; rounds + 1 where there is none
unfoldable pub depth : Machine → ℕ → ℕ → ℕ
depth M p q = least (suc (rounds M)) (λ i. not (eqb (at (layer M i) p) (at (layer M i) q)))

-- the least sign under which next states have different names in a layer
unfoldable pub parting_sign : Machine → List ℕ → ℕ → ℕ → ℕ
parting_sign M xs p q = least M.signs (λ a. not (eqb (at xs (M.next p a)) (at xs (M.next q a))))

-- a word of d signs, for two states that part in layer d
unfoldable pub word_from : Machine → ℕ → ℕ → ℕ → List ℕ
word_from M zero p q = []
word_from M (suc d) p q =
    let a = parting_sign M (layer M d) p q in
    a ∷ word_from M d (M.next p a) (M.next q a)

-- What is said of two states: alike, or a word that tells them apart.
pub data Telling : Type 0 where
  alike : Telling
  apart : List ℕ → Telling

unfoldable pub telling : Machine → ℕ → ℕ → Telling
telling M p q = pick (ltb (rounds M) (depth M p q)) alike (apart (word_from M (depth M p q) p q))

-- of two words of one length: not later in sign order
abbrev pub NotLater : List ℕ → List ℕ → Type 0
NotLater [] v = Unit {0}
NotLater (a ∷ w) [] = ⊥
NotLater (a ∷ w) (b ∷ v) = (a < b) ⊎ ((a ≡ b) × NotLater w v)

-- The word tells the two states apart; no shorter word does; of those of its length it is the first in sign order.
pub record Tells (M : Machine) (p q : ℕ) (w : List ℕ) : Type 0 where
  pub word : Word M.signs w
  pub parts : ends M p w ≢ ends M q w
  pub shortest : (v : List ℕ) → Word M.signs v → ends M p v ≢ ends M q v → length w ≤ length v
  pub first : (v : List ℕ) → Word M.signs v → ends M p v ≢ ends M q v → length v ≡ length w → NotLater w v
