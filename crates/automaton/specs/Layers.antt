-- Layers and classes, as the paper has them. A class is named by its least state.
use Rattle.std.specs.Prelude.{Bool, ◌&&◌, List, ℕ, zero, suc, eqb}
use Rattle.counting.specs.Lists.{at, tab}
use Rattle.counting.specs.Least.{least, name}
use Rattle.counting.specs.Counts.{all, count, agree}
use Rattle.automaton.specs.Machine.{Machine}

-- layer 0: alike when their kinds are equal
unfoldable pub alike_kind : Machine → ℕ → ℕ → Bool
alike_kind M p q = eqb (M.kind p) (M.kind q)

-- the next layer: alike in this one, and for each sign their next states are alike in it
unfoldable pub alike_next : Machine → List ℕ → ℕ → ℕ → Bool
alike_next M xs p q = eqb (at xs p) (at xs q) && all M.signs (λ a. eqb (at xs (M.next p a)) (at xs (M.next q a)))

-- the class name of each state in layer i
unfoldable pub layer : Machine → ℕ → List ℕ
layer M zero = tab M.size (name (alike_kind M))
layer M (suc i) = tab M.size (name (alike_next M (layer M i)))

-- the least i at which layers i and i + 1 are equal
unfoldable pub rounds : Machine → ℕ
rounds M = least M.size (λ i. agree M.size (layer M i) (layer M (suc i)))

-- the class name of each state
unfoldable pub classes : Machine → List ℕ
classes M = layer M (rounds M)

-- how many classes a list of names has, of n states
unfoldable pub class_count : ℕ → List ℕ → ℕ
class_count n xs = count n (λ q. eqb (at xs q) q)

-- the kinds present
unfoldable pub kinds : Machine → ℕ
kinds M = class_count M.size (layer M zero)
