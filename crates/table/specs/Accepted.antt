-- What a caller may use of an accepted file: its sizes, and that it is right.
use Rattle.std.specs.Prelude.{◌≡◌, List, ℕ}
use Rattle.table.specs.Judging.{states_of, signs_of, start_of}
use Rattle.table.specs.Rows.{InRange, Right}
use Rattle.table.specs.declared.answer.Sizes.{Sizes}

-- The file is right, and these are its sizes.
pub record Good (file : List ℕ) (z : Sizes) : Type 0 where
  pub states : z.states ≡ states_of file
  pub signs : z.signs ≡ signs_of file
  pub start : z.start ≡ start_of file
  pub range : InRange z.states z.signs
  pub right : Right file
