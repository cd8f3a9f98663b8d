-- One take, from the lists before it alone: every class with hits and others is split, all against the same class.
use Rattle.std.specs.Prelude.{Bool, false, not, ◌&&◌, List, ℕ, pred, eqb, leb, get_or}
use Rattle.std.specs.Bool.{beq}
use Rattle.counting.specs.Lists.{at, tab}
use Rattle.counting.specs.Least.{pick, least}
use Rattle.counting.specs.Counts.{count}
use Rattle.automaton.specs.Machine.{Machine}
use Rattle.refining.specs.Lists.{Split}

-- the class taken: the least with pending not 0
unfoldable pub taken_class : ℕ → Split → ℕ
taken_class n s = least n (λ q. not (eqb (at s.pending q) 0))

-- its sign: the pending, lowered by 1
unfoldable pub taken_sign : ℕ → Split → ℕ
taken_sign n s = pred (at s.pending (taken_class n s))

-- whether the next state of each state under the sign lies in the class: the entries looked at
unfoldable pub hits : Machine → List ℕ → ℕ → ℕ → List Bool
hits M cs q a = tab M.size (λ x. eqb (at cs (M.next x a)) q)

-- the state is on the other side than its class's least state
unfoldable pub leaves : List ℕ → List Bool → ℕ → Bool
leaves cs hs x = not (beq (get_or hs x false) (get_or hs (at cs x) false))

-- the part with the class's least state keeps the name; the other is named by its own least state
unfoldable pub split_class : ℕ → List ℕ → List Bool → List ℕ
split_class n cs hs = tab n (λ x. pick (leaves cs hs x) (least n (λ y. eqb (at cs y) (at cs x) && leaves cs hs y)) (at cs x))

-- how many states of each class keep its name, and how many leave
unfoldable pub kept_sizes : ℕ → List ℕ → List Bool → List ℕ
kept_sizes n cs hs = tab n (λ p. count n (λ x. eqb (at cs x) p && not (leaves cs hs x)))

unfoldable pub gone_sizes : ℕ → List ℕ → List Bool → List ℕ
gone_sizes n cs hs = tab n (λ p. count n (λ x. eqb (at cs x) p && leaves cs hs x))

-- pending, lowered by 1 at the class taken
unfoldable pub lowered : ℕ → List ℕ → ℕ → List ℕ
lowered n ps q = tab n (λ x. pick (eqb x q) (pred (at ps x)) (at ps x))

-- of a split class: if the part that keeps the name isn't larger it waits with all signs and the other takes the old pending, else the other way round
unfoldable pub split_pending : ℕ → ℕ → List ℕ → List ℕ → List ℕ → List ℕ → List ℕ → List ℕ
split_pending n k cs new old kept gone = tab n (λ x.
    pick (eqb (at new x) x && not (eqb (at cs x) x))
    (pick (leb (at kept (at cs x)) (at gone (at cs x))) (at old (at cs x)) k)
    (pick (not (eqb (at gone x) 0) && leb (at kept x) (at gone x)) k (at old x)))

unfoldable pub take_by : Machine → Split → ℕ → List Bool → Split
take_by M s q hs = record {
  class = split_class M.size s.class hs;
  pending = split_pending M.size M.signs s.class (split_class M.size s.class hs) (lowered M.size s.pending q) (kept_sizes M.size s.class hs) (gone_sizes M.size s.class hs);
}

-- the hits of the take that is due
unfoldable pub due_hits : Machine → Split → List Bool
due_hits M s = hits M s.class (taken_class M.size s) (taken_sign M.size s)

-- the take that is due
unfoldable pub take : Machine → Split → Split
take M s = take_by M s (taken_class M.size s) (due_hits M s)

-- the entries looked at in it
unfoldable pub entries : Machine → Split → ℕ
entries M s = count M.size (λ x. get_or (due_hits M s) x false)
