-- The fresh lists: the classes of layer 0; every class but a largest waits with all signs, and among equals the one with the smallest kind is spared.
use Rattle.std.specs.Prelude.{Bool, not, ◌&&◌, ◌||◌, List, ℕ, eqb, ltb, leb}
use Rattle.counting.specs.Lists.{at, tab}
use Rattle.counting.specs.Least.{pick, least}
use Rattle.counting.specs.Counts.{all, count}
use Rattle.automaton.specs.Machine.{Machine}
use Rattle.automaton.specs.Layers.{layer}
use Rattle.refining.specs.Lists.{Split}

-- how many states each name's class has
unfoldable pub class_sizes : ℕ → List ℕ → List ℕ
class_sizes n cs = tab n (λ c. count n (λ x. eqb (at cs x) c))

-- class c goes before class d as the one to spare: it is larger, or as large with a kind not greater
unfoldable pub before : Machine → List ℕ → ℕ → ℕ → Bool
before M sizes c d = ltb (at sizes d) (at sizes c) || eqb (at sizes d) (at sizes c) && leb (M.kind c) (M.kind d)

-- the class that is spared
unfoldable pub spared_of : Machine → List ℕ → List ℕ → ℕ
spared_of M cs sizes = least M.size (λ c. eqb (at cs c) c && all M.size (λ d. not (eqb (at cs d) d) || before M sizes c d))

unfoldable pub pending_of : Machine → List ℕ → ℕ → List ℕ
pending_of M cs spared = tab M.size (λ q. pick (eqb (at cs q) q && not (eqb q spared)) M.signs 0)

unfoldable pub fresh_of : Machine → List ℕ → Split
fresh_of M cs = record { class = cs; pending = pending_of M cs (spared_of M cs (class_sizes M.size cs)) }

unfoldable pub fresh : Machine → Split
fresh M = fresh_of M (layer M 0)

-- the paper's rule for marks: where both occur, the accepting class waits when it isn't larger than the other, else the other does
unfoldable pub marked_pending : Machine → ℕ → ℕ
marked_pending M q = pick (both && eqb (at (layer M 0) q) q && eqb (M.kind q) (pick (leb accepting other) 1 0)) M.signs 0
  where
    accepting : ℕ
    accepting = count M.size (λ x. eqb (M.kind x) 1)

    other : ℕ
    other = count M.size (λ x. eqb (M.kind x) 0)

    both : Bool
    both = not (eqb accepting 0) && not (eqb other 0)
