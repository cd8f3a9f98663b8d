-- Where the bodies of a file's fields stand: of an accepted file by its sizes, of a refused one nowhere, and always within the file.
use mathlib.Core.Path.{◌≡◌}
use mathlib.Core.Bool.{Bool, true, false}
use mathlib.Core.List.{List}
use Prim.Native.Nat.{ℕ, ◌+◌, ◌≤◌}
use native.Mathlib.Omega.{arith}
use lib.Dec.{eqb}
use lib.ListN.{length}
use Rattle.counting.specs.Least.{pick}
use Rattle.table.specs.declared.answer.Part.{Part}
use Rattle.table.specs.declared.answer.Sizes.{Sizes}
use Rattle.table.specs.Accepted.{Good}
use Rattle.table.specs.Answers.{gives, refuses, when_given}
use Rattle.table.specs.Judging.{judged, states_of, signs_of}
use Rattle.table.specs.Rows.{Right}
use Rattle.table.specs.Bodies.{nowhere, body_in, body_of}
use Rattle.table.proofs.Outcomes.{Comes, refusing, giving, comes}

-- the part that `Default` gives
pub empty_part : (p : Part) → (p.place ≡ 0) × (p.length ≡ 0) → p ≡ nowhere
empty_part p e = λ i. record { place = e.0 i; length = e.1 i }

module _ (file : List ℕ) (number : ℕ) where
  pub body_of_given : {vs : List ℕ} → judged file ≡ gives vs → body_of file number ≡ body_in (states_of file) (signs_of file) number
  unfolding body_of when_given
  body_of_given e = rw e

  pub body_of_refused : {m p : ℕ} → judged file ≡ refuses m p → body_of file number ≡ nowhere
  unfolding body_of when_given
  body_of_refused e = rw e

  within : Part → Type 0
  within p = p.place + p.length ≤ length file

  one_of : (t : Bool) (p r : Part) → within p → within r → within (pick t p r)
  unfolding pick
  one_of true p r h i = h
  one_of false p r h i = i

  in_right : Right file → within (body_in (states_of file) (signs_of file) number)
  unfolding body_in within
  in_right r =
      one_of (eqb number 1) _ _ (omega (arith, r.fields.marks.sizes.whole.bodied))
      (one_of (eqb number 2) _ _ (omega (arith, r.fields.marks.whole.bodied)) (one_of (eqb number 3) _ _ (omega (arith, r.ends)) (omega arith)))

  -- of a right file the body of every field lies within it
  pub body_in_within : {z : Sizes} → Good file z → (body_in z.states z.signs number).place + (body_in z.states z.signs number).length ≤ length file
  unfolding within
  body_in_within g = rw (g.states, g.signs) (in_right g.right)

  pub body_within : (body_of file number).place + (body_of file number).length ≤ length file
  unfolding within
  body_within = by (comes file)
    where
      by : Comes file (judged file) (Right file) → within (body_of file number)
      by (refusing m p g e) = rw (body_of_refused e) (omega arith)
      by (giving vs r e) = rw (body_of_given e) (in_right r)
