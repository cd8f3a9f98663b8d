-- The cases of document 01 that have a star, gathered in one list, and the statement that all of a list hold.
use Rattle.std.specs.Prelude.{◌≡◌, List, [], ◌∷◌, ℕ, ◌*◌, length}
use Rattle.counting.specs.Lists.{tab}
use Rattle.automaton.specs.Machine.{Machine}
use Rattle.automaton.specs.Layers.{rounds, classes, class_count}
use Rattle.automaton.specs.Telling.{telling, alike, apart}
use Rattle.automaton.specs.Quotient.{rows}
use Rattle.refining.specs.Fresh.{fresh}
use Rattle.refining.specs.Run.{step_entries, run_lists, run_takes, run_entries}
use Rattle.table.specs.Encoding.{encode}
use Rattle.shrinking.specs.Shrunk.{shrunk}
use Rattle.selftest.specs.Samples.{t1, t2, t3, single, t1_shrunk}

-- the class of each state, m and r
abbrev Classed : Machine → List ℕ → ℕ → ℕ → Type 0
Classed M names m r = (classes M ≡ names) × (class_count M.size (classes M) ≡ m) × (rounds M ≡ r)

-- the takes of a full splitting from fresh; n × k takes always suffice
abbrev takes_of : Machine → ℕ
takes_of M = run_takes M (M.size * M.signs) (fresh M)

-- the entries that each take of a full splitting looks at, first take first
abbrev entries_of : Machine → List ℕ
entries_of M = tab (takes_of M) (λ i. step_entries M (run_lists M i (fresh M)))

-- the cases with a star, in the order of document 01
abbrev pub starred : List (Type 0)
starred =
    Classed t1 (0 ∷ 1 ∷ 2 ∷ 2 ∷ 1 ∷ []) 3 1
    ∷ (entries_of t1 ≡ 2 ∷ 4 ∷ 3 ∷ 0 ∷ [])
    ∷ (telling t1 0 1 ≡ apart (0 ∷ []))
    ∷ (telling t1 0 2 ≡ apart [])
    ∷ (telling t1 1 4 ≡ alike)
    ∷ (shrunk (encode t1) ≡ t1_shrunk)
    ∷ Classed t2 (0 ∷ 1 ∷ 2 ∷ 3 ∷ 4 ∷ 4 ∷ 6 ∷ 6 ∷ 8 ∷ []) 7 2
    ∷ (telling t2 0 2 ≡ apart (0 ∷ 1 ∷ []))
    ∷ ((class_count t3.size (classes t3) ≡ 6) × (rounds t3 ≡ 4))
    ∷ (telling t3 0 1 ≡ apart (0 ∷ 0 ∷ 0 ∷ 0 ∷ []))
    ∷ ((takes_of t3 ≡ 10) × (run_entries t3 (t3.size * t3.signs) (fresh t3) ≡ 10))
    ∷ ((takes_of single ≡ 0) × (rounds single ≡ 0) × (length (rows single) ≡ 1))
    ∷ []

-- every statement of a list holds
abbrev pub AllHold : List (Type 0) → Type 0
AllHold [] = Unit {0}
AllHold (p ∷ ps) = p × AllHold ps
