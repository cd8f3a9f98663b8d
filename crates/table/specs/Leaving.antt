-- What a call leaves, in one piece: its answer and the contents of every lent slice.
use Rattle.std.specs.Prelude.{Bool, List, ℕ}
use Rattle.counting.specs.Least.{pick}
use Rattle.table.specs.Answers.{Said, refuses, when_given}
use Rattle.table.specs.Judging.{judged}

-- The answer, and the lent slices in the call's order.
pub record Left : Type 0 where
  pub said : Said
  pub lent : List (List ℕ)

abbrev pub left : Said → List (List ℕ) → Left
left said lent = record { said = said; lent = lent }

-- the file is judged before all else: where it is refused, all lent memory stays as it was
unfoldable pub on_file : List ℕ → List (List ℕ) → Left → Left
on_file file lent rest = when_given (judged file) rest (left (judged file) lent)

-- a refusal given exactly when the test holds, and the memory that it leaves
unfoldable pub refusing : Bool → ℕ → ℕ → List (List ℕ) → Left → Left
refusing t number place lent rest = pick t (left (refuses number place) lent) rest
