-- The answers of running a word or a line on a file.
use Rattle.std.specs.Prelude.{not, List, [], ◌∷◌, ℕ, eqb, ltb, leb, length, Result, Ok, Err}
use Rattle.counting.specs.Lists.{at}
use Rattle.counting.specs.Least.{pick, least}
use Rattle.automaton.specs.Machine.{Machine}
use Rattle.automaton.specs.Words.{steps, ends}
use Rattle.table.specs.declared.answer.Refusal.{Refusal}
use Rattle.table.specs.Answers.{Said, gives, said_by}
use Rattle.table.specs.Judging.{◌and_then◌, refuse, judged, signs_of}
use Rattle.table.specs.Encoding.{machine_of}
use Rattle.running.specs.Plan.{plan1, spelled}

-- the answer of a run: the mark of the last state, or the refusal
abbrev pub told : Result ℕ Refusal → Said
told = said_by (λ mark. mark ∷ [])

-- the first sign of a word that is k or more; the word's length where there is none
unfoldable pub bad_sign : ℕ → List ℕ → ℕ
bad_sign k word = least (length word) (λ i. leb k (at word i))

-- where a walk from the start along a word ends: in a state, or at the first strange sign
unfoldable pub walked : Machine → List ℕ → Result ℕ ℕ
walked M word = pick (ltb (bad_sign M.signs word) (length word)) (Err (bad_sign M.signs word)) (Ok (steps M M.start word))

-- running a word: the file first, then 10 at the index of the first strange sign, then the mark of the last state
unfoldable pub ran_word : List ℕ → List ℕ → Said
ran_word file word =
    judged file
    and_then refuse (ltb (bad_sign (signs_of file) word) (length word)) 10 (bad_sign (signs_of file) word)
    and_then gives (ends (machine_of file) (machine_of file).start word ∷ [])

-- running a line: the file first, then 9 where k isn't 47, then the mark of the last state of the word that the line spells
unfoldable pub ran_line : List ℕ → List ℕ → Said
ran_line file line =
    judged file
    and_then refuse (not (eqb (signs_of file) 47)) 9 0
    and_then gives (ends (machine_of file) (machine_of file).start (spelled plan1 line) ∷ [])
