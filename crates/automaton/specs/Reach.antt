-- The states that can be reached from the start, as a computed list.
use Rattle.std.specs.Prelude.{Bool, false, ◌&&◌, ◌||◌, List, ℕ, zero, suc, eqb, get_or}
use Rattle.counting.specs.Lists.{tab}
use Rattle.counting.specs.Counts.{any}
use Rattle.automaton.specs.Machine.{Machine}

-- those reached so far, and the next states of those
unfoldable pub grow : Machine → List Bool → List Bool
grow M xs = tab M.size (λ q. get_or xs q false || any M.size (λ p. get_or xs p false && any M.signs (λ a. eqb (M.next p a) q)))

-- the states that words of at most i signs lead to
unfoldable pub reached_in : Machine → ℕ → List Bool
reached_in M zero = tab M.size (λ q. eqb M.start q)
reached_in M (suc i) = grow M (reached_in M i)

-- the states that words lead to: as many steps as there are states are enough
unfoldable pub reachable : Machine → List Bool
reachable M = reached_in M M.size
