-- The fresh start: its answer and all lent memory, for every input.
use Rattle.std.specs.Prelude.{◌||◌, List, [], ◌∷◌, ℕ, ltb, length, Result}
use Rattle.automaton.specs.Machine.{Machine}
use Rattle.refining.specs.Fresh.{fresh}
use Rattle.lending.specs.Memory.{written}
use Rattle.table.specs.Answers.{Said, gives, said_by}
use Rattle.table.specs.declared.answer.Refusal.{Refusal}
use Rattle.table.specs.Leaving.{Left, left, on_file, refusing}
use Rattle.table.specs.Encoding.{machine_of}

-- the answer of a fresh start: nothing but the lists, or the refusal
abbrev pub told_start : Result (Unit {0}) Refusal → Said
told_start = said_by (λ u. [])

-- a fresh start of a machine: 12, then the fresh lists
unfoldable pub start_of : Machine → List ℕ → List ℕ → Left
start_of M class pending =
    refusing (ltb (length class) M.size || ltb (length pending) M.size) 12 M.size (class ∷ pending ∷ [])
    (left (gives []) (written (fresh M).class class ∷ written (fresh M).pending pending ∷ []))

-- of a file: the file first
unfoldable pub start_leaves : List ℕ → List ℕ → List ℕ → Left
start_leaves file class pending = on_file file (class ∷ pending ∷ []) (start_of (machine_of file) class pending)
