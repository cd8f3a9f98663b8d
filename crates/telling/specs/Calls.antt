-- The call that tells two states apart: its answer and all lent memory, for every input.
use Rattle.std.specs.Prelude.{List, [], ◌∷◌, ℕ, ◌*◌, ltb, leb, length, Option, None, Some, Result}
use Rattle.automaton.specs.Machine.{Machine}
use Rattle.automaton.specs.Telling.{Telling, alike, apart, telling}
use Rattle.lending.specs.Memory.{cleared, written}
use Rattle.table.specs.Answers.{Said, gives, said_by}
use Rattle.table.specs.Leaving.{Left, left, on_file, refusing}
use Rattle.table.specs.Encoding.{machine_of}
use Rattle.table.specs.declared.answer.Refusal.{Refusal}

-- nothing where the states are alike, else the length of the word
abbrev pub word_length : Option ℕ → List ℕ
word_length None = []
word_length (Some length) = length ∷ []

-- the answer: alike, or the length of the word, or the refusal
abbrev pub told : Result (Option ℕ) Refusal → Said
told = said_by word_length

-- what is left once the word is known: "alike" needs no room; a word needs as many bytes as it has signs
unfoldable pub spoken : Telling → List ℕ → List ℕ → Left
spoken alike work word = left (gives []) (work ∷ word ∷ [])
spoken (apart w) work word =
    refusing (ltb (length word) (length w)) 12 (length w) (work ∷ word ∷ [])
    (left (gives (length w ∷ [])) (work ∷ written w word ∷ []))

-- of a machine: 10 for the first state, 10 for the second, 11, then the word in cleared work
unfoldable pub tell_of : Machine → ℕ → ℕ → List ℕ → List ℕ → Left
tell_of M p q work word =
    refusing (leb M.size p) 10 0 (work ∷ word ∷ [])
    (refusing (leb M.size q) 10 1 (work ∷ word ∷ [])
    (refusing (ltb (length work) (16 * M.size)) 11 (16 * M.size) (work ∷ word ∷ [])
    (spoken (telling M p q) (cleared (16 * M.size) work) word)))

-- of a file: the file first
unfoldable pub tell_leaves : List ℕ → ℕ → ℕ → List ℕ → List ℕ → Left
tell_leaves file p q work word = on_file file (work ∷ word ∷ []) (tell_of (machine_of file) p q work word)
