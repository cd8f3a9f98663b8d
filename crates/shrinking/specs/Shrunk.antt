-- The shrunk file of a file: the smallest machine, written as a file. And what document 01 promises of it.
use Rattle.std.specs.Prelude.{◌≡◌, List, ℕ, ◌+◌, ◌*◌, ◌≤◌, length}
use Rattle.automaton.specs.Quotient.{quotient}
use Rattle.table.specs.Answers.{gives}
use Rattle.table.specs.Judging.{judged, states_of, signs_of}
use Rattle.table.specs.Encoding.{machine_of, encode}
use Rattle.running.specs.Running.{ran_word, ran_line}

-- one row for each class that holds a state reachable from the start
unfoldable pub shrunk : List ℕ → List ℕ
shrunk file = encode (quotient (machine_of file))

-- a file that is accepted
abbrev pub Accepted : List ℕ → Type 0
Accepted file = (vs : List ℕ) × (judged file ≡ gives vs)

-- two files give every word the same answer
abbrev pub SameWords : List ℕ → List ℕ → Type 0
SameWords file other = (word : List ℕ) → ran_word file word ≡ ran_word other word

-- What document 01 promises of the shrunk file of an accepted one.
pub record Promised (file : List ℕ) : Type 0 where
  -- it is accepted, over the same signs
  pub accepted : Accepted (shrunk file)
  pub signs : signs_of (shrunk file) ≡ signs_of file
  -- it accepts exactly the words the given one did, and the lines
  pub words : SameWords (shrunk file) file
  pub lines : (line : List ℕ) → ran_line (shrunk file) line ≡ ran_line file line
  -- no accepted file of the same k that does so has fewer rows
  pub fewest : (other : List ℕ) → Accepted other → signs_of other ≡ signs_of file → SameWords other file → states_of (shrunk file) ≤ states_of other
  -- its length is 15 + rows + 2 × rows × k
  pub long : length (shrunk file) ≡ 15 + states_of (shrunk file) + 2 * (states_of (shrunk file) * signs_of file)
  -- it is never longer than the given one
  pub no_longer : length (shrunk file) ≤ length file
  -- shrinking it again gives the same bytes
  pub again : shrunk (shrunk file) ≡ shrunk file
