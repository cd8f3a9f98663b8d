-- The shrinking call: its answer and all lent memory, for every input.
use Rattle.std.specs.Prelude.{◌≡◌, List, [], ◌∷◌, ℕ, ◌*◌, ◌≤◌, ltb, length, take, Result}
use Rattle.automaton.specs.Quotient.{rows}
use Rattle.lending.specs.Memory.{cleared, written}
use Rattle.table.specs.Answers.{Said, gives, said_by}
use Rattle.table.specs.Judging.{states_of}
use Rattle.table.specs.Leaving.{Left, left, on_file, refusing}
use Rattle.table.specs.Encoding.{machine_of}
use Rattle.shrinking.specs.Shrunk.{shrunk}
use Rattle.table.specs.declared.answer.Refusal.{Refusal}
use Rattle.shrinking.specs.declared.shrinks.Size.{Size}

-- the answer: the rows and the length of the shrunk file, or the refusal
abbrev pub told : Result Size Refusal → Said
told = said_by (λ size. size.rows ∷ size.length ∷ [])

-- of an accepted file: 11, 12 at the shrunk file's length, then that file at the front of the lent bytes
unfoldable pub shrink_of : List ℕ → List ℕ → List ℕ → Left
shrink_of file work out =
    refusing (ltb (length work) (16 * states_of file)) 11 (16 * states_of file) (work ∷ out ∷ [])
    (refusing (ltb (length out) (length (shrunk file))) 12 (length (shrunk file)) (cleared (16 * states_of file) work ∷ out ∷ [])
    (left (gives (length (rows (machine_of file)) ∷ length (shrunk file) ∷ [])) (cleared (16 * states_of file) work ∷ written (shrunk file) out ∷ [])))

-- of a file: the file first
unfoldable pub shrink_leaves : List ℕ → List ℕ → List ℕ → Left
shrink_leaves file work out = on_file file (work ∷ out ∷ []) (shrink_of file work out)

-- The shrunk file is n bytes long, and they stand at the front of out.
pub record MadeIn (file out : List ℕ) (n : ℕ) : Type 0 where
  pub long : n ≡ length (shrunk file)
  pub room : n ≤ length out
  pub front : take n out ≡ shrunk file
