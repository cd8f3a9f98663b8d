-- Where the shrinking call answers with a length, so many bytes of out are the shrunk file. Rests on the laws of written memory.
use mathlib.Core.Path.{◌≡◌, refl, sym, ap, ◌∙◌}
use mathlib.Core.Bool.{Bool, true, false}
use mathlib.Core.List.{List, [], ◌∷◌}
use Prim.Native.Nat.{ℕ, ◌*◌, ◌≤◌}
use native.Mathlib.Omega.{arith}
use borrow.Author.Tests.{ltb-false}
use lib.Dec.{ltb}
use lib.ListN.{length, take}
use Rattle.counting.specs.Least.{pick}
use Rattle.automaton.specs.Quotient.{rows}
use Rattle.lending.specs.Memory.{cleared, written}
use Rattle.lending.proofs.Memories.{written_front, written-length}
use Rattle.table.specs.Answers.{Said, gives, refuses, when_given}
use Rattle.table.specs.Judging.{judged, states_of}
use Rattle.table.specs.Leaving.{Left, left, on_file, refusing}
use Rattle.table.specs.Encoding.{machine_of}
use Rattle.table.proofs.Leavings.{not_refused, left_said, left_lent}
use Rattle.shrinking.specs.Shrunk.{shrunk}
use Rattle.shrinking.specs.Calls.{shrink_of, shrink_leaves, MadeIn}

-- a call that gives values was refused neither by its file nor at a test
module _ {vs : List ℕ} {ls : List (List ℕ)} (lent : List (List ℕ)) (rest : Left) where
  past_said : (s : Said) → left (gives vs) ls ≡ when_given s rest (left s lent) → left (gives vs) ls ≡ rest
  unfolding when_given
  past_said (gives us) e = e
  past_said (refuses number place) e = absurd (not_refused (left_said e))

  past_test : (t : Bool) (number place : ℕ) → left (gives vs) ls ≡ refusing t number place lent rest → (t ≡ false) × (left (gives vs) ls ≡ rest)
  unfolding refusing pick
  past_test false number place e = (refl, e)
  past_test true number place e = absurd (not_refused (left_said e))

-- where the call answers with a length, the shrunk file was made
pub made_is : (file work out : List ℕ) {count n : ℕ} {w o : List ℕ}
    → left (gives (count ∷ n ∷ [])) (w ∷ o ∷ []) ≡ shrink_leaves file work out
    → MadeIn file o n
unfolding shrink_leaves shrink_of on_file
made_is file work out {count} {n} {w} {o} e =
    let judged-well = past_said (work ∷ out ∷ []) _ (judged file) e in
    let wide = past_test (work ∷ out ∷ []) _ (ltb (length work) (16 * states_of file)) 11 (16 * states_of file) judged-well in
    let roomy = past_test (cleared (16 * states_of file) work ∷ out ∷ []) _ (ltb (length out) (length (shrunk file))) 12 (length (shrunk file)) wide.1 in
    let fits : length (shrunk file) ≤ length out = ltb-false (length out) (length (shrunk file)) roomy.0 in
    let said : gives (count ∷ n ∷ []) ≡ gives (length (rows (machine_of file)) ∷ length (shrunk file) ∷ []) = left_said roomy.1 in
    let long : n ≡ length (shrunk file) = cc in
    let bytes : o ≡ written (shrunk file) out = left_lent roomy.1 1 in
    record {
      long = long;
      room = omega (arith, ap length bytes, written-length (shrunk file) out fits);
      front = ap (take n) bytes ∙ written_front n (shrunk file) out (sym long);
    }
