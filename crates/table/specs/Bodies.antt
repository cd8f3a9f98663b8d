-- Where the body of each field stands in an accepted file, and the part of the file that it is.
use Rattle.std.specs.Prelude.{◌≡◌, ℕ, ◌+◌, ◌*◌, List, eqb, take, drop}
use Rattle.std.specs.Borrow.{Bor}
use Rattle.counting.specs.Least.{pick}
use Rattle.table.specs.Answers.{when_given}
use Rattle.table.specs.Judging.{judged, states_of, signs_of}
use Rattle.table.specs.declared.answer.Part.{Part}

-- the part of a file that starts at a place and has some bytes
abbrev pub part : List ℕ → ℕ → ℕ → List ℕ
part file place size = take size (drop place file)

-- the empty part at the file's start
abbrev pub nowhere : Part
nowhere = record { place = 0; length = 0 }

-- the body of field 1, 2 or 3 of a file of n states and k signs; of any other number the empty part
unfoldable pub body_in : ℕ → ℕ → ℕ → Part
body_in n k number =
    pick (eqb number 1) (record { place = 3; length = 6 })
    (pick (eqb number 2) (record { place = 12; length = n })
    (pick (eqb number 3) (record { place = 12 + n + 3; length = 2 * (n * k) })
    nowhere))

-- the body of a field of a file; of a refused file the empty part
unfoldable pub body_of : List ℕ → ℕ → Part
body_of file number = when_given (judged file) (body_in (states_of file) (signs_of file) number) nowhere

-- What is handed back is the part of the lent slice: the same bytes, in the same memory, at this place of it.
pub record PartOf (file : Bor (List ℕ)) (at size : ℕ) (r : Bor (List ℕ)) : Type 0 where
  pub bytes : r.now ≡ part file.now at size
  pub block : r.ref_ptr.0 ≡ file.ref_ptr.0
  pub stands : r.ref_ptr.1 ≡ at + file.ref_ptr.1

-- the part that is the body of a field
abbrev pub FieldOf : Bor (List ℕ) → ℕ → Bor (List ℕ) → Type 0
FieldOf file number r = PartOf file (body_of file.now number).place (body_of file.now number).length r
