-- The layered call: its answer and all lent memory, for every input.
use Rattle.std.specs.Prelude.{List, [], ◌∷◌, ℕ, ◌*◌, ltb, length, Result}
use Rattle.automaton.specs.Machine.{Machine}
use Rattle.automaton.specs.Layers.{classes, class_count, rounds}
use Rattle.lending.specs.Memory.{cleared, written}
use Rattle.table.specs.Answers.{Said, gives, said_by}
use Rattle.table.specs.Leaving.{Left, left, on_file, refusing}
use Rattle.table.specs.Encoding.{machine_of}
use Rattle.table.specs.declared.answer.Refusal.{Refusal}
use Rattle.layering.specs.declared.layers.Counts.{Counts}

-- the answer: m and r, or the refusal
abbrev pub told : Result Counts Refusal → Said
told = said_by (λ c. c.classes ∷ c.rounds ∷ [])

-- of a machine: 11, 12, then m and r, with the class names at the front of the result
unfoldable pub layers_of : Machine → List ℕ → List ℕ → Left
layers_of M work result =
    refusing (ltb (length work) (16 * M.size)) 11 (16 * M.size) (work ∷ result ∷ [])
    (refusing (ltb (length result) M.size) 12 M.size (cleared (16 * M.size) work ∷ result ∷ [])
    (left (gives (class_count M.size (classes M) ∷ rounds M ∷ [])) (cleared (16 * M.size) work ∷ written (classes M) result ∷ [])))

-- of a file: the file first
unfoldable pub layers_leave : List ℕ → List ℕ → List ℕ → Left
layers_leave file work result = on_file file (work ∷ result ∷ []) (layers_of (machine_of file) work result)
