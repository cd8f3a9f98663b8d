-- The ways out of the shrinking call, each with its facts. Rests on the length of an encoded machine.
use mathlib.Core.Path.{◌≡◌, refl, sym, ap, ap₂, subst, ◌∙◌}
use mathlib.Core.List.{List, [], ◌∷◌}
use Prim.Native.Nat.{ℕ, ◌+◌, ◌-◌, ◌*◌, ◌≤◌, ◌<◌}
use native.Mathlib.Omega.{arith}
use borrow.Author.Tests.{lt-ltb, le-ltb}
use lib.Dec.{ltb}
use lib.ListN.{length, take, drop}
use Rattle.automaton.specs.Machine.{Machine}
use Rattle.automaton.specs.Quotient.{rows, quotient_by, quotient}
use Rattle.lending.specs.Memory.{cleared, written}
use Rattle.lending.proofs.Memories.{cleared_same}
use Rattle.table.specs.Answers.{gives, refuses}
use Rattle.table.specs.Judging.{judged}
use Rattle.table.specs.Leaving.{Left, left, refusing}
use Rattle.table.specs.Encoding.{machine_in, machine_of, encode}
use Rattle.table.specs.Accepted.{Good}
use Rattle.table.specs.declared.answer.Sizes.{Sizes}
use Rattle.table.specs.Tables.{machine, TableOf}
use Rattle.table.specs.declared.tables.Table.{Table}
use Rattle.table.proofs.Encodings.{encoded_length}
use Rattle.table.proofs.Leavings.{file_refused, file_given, refuses_here, refuses_not}
use Rattle.table.proofs.Openings.{good_given}
use Rattle.table.proofs.Handing.{marks_in, nexts_in, machine_is}
use Rattle.shrinking.specs.Shrunk.{shrunk}
use Rattle.shrinking.specs.Written.{WritableBy, rows_in, classes_in, row_machine, file_length}
use Rattle.shrinking.specs.Found.{RowsFound}
use Rattle.shrinking.specs.Calls.{shrink_of, shrink_leaves}

pub shrink_refused : (file work out : List ℕ) {number place : ℕ} → judged file ≡ refuses number place → left (refuses number place) (work ∷ out ∷ []) ≡ shrink_leaves file work out
unfolding shrink_leaves
shrink_refused file work out e = sym (file_refused file (work ∷ out ∷ []) _ e)

-- the call, by the machine of the file
unfoldable shrink_by : Machine → List ℕ → List ℕ → Left
shrink_by M work out =
    refusing (ltb (length work) (16 * M.size)) 11 (16 * M.size) (work ∷ out ∷ [])
    (refusing (ltb (length out) (length (encode (quotient M)))) 12 (length (encode (quotient M))) (cleared (16 * M.size) work ∷ out ∷ [])
    (left (gives (length (rows M) ∷ length (encode (quotient M)) ∷ [])) (cleared (16 * M.size) work ∷ written (encode (quotient M)) out ∷ [])))

by_machine : (file work out : List ℕ) → shrink_of file work out ≡ shrink_by (machine_of file) work out
unfolding shrink_of shrink_by shrunk
by_machine file work out = refl

-- the parts of the slice that are lent to the writing
abbrev pub rows_lent : ℕ → ℕ → List ℕ → List ℕ
rows_lent n count work = take (3 * n + count - 3 * n) (drop (3 * n) work)

abbrev pub numbers_lent : ℕ → List ℕ → List ℕ
numbers_lent n work = take (3 * n - 2 * n) (drop (2 * n) work)

abbrev pub classes_lent : ℕ → List ℕ → List ℕ
classes_lent n work = take (7 * n - 6 * n) (drop (6 * n) work)

-- the rows found: the file of the machine over them is that of the quotient, and as long
module _ (M : Machine) (before after : List ℕ) (count takes : ℕ) (f : RowsFound M before after count takes) where
  rows_are : rows_lent M.size count after ≡ rows_in M.size count after
  rows_are = ap (λ (m : ℕ). take m (drop (3 * M.size) after)) (omega arith)

  classes_are : classes_lent M.size after ≡ classes_in M.size after
  classes_are = ap (λ (m : ℕ). take m (drop (6 * M.size) after)) (omega arith)

  pub lent_writable : WritableBy M (rows_lent M.size count after) (numbers_lent M.size after) (classes_lent M.size after)
  lent_writable = let e : 3 * M.size - 2 * M.size ≡ M.size = omega arith in rw (rows_are, classes_are, e) f.writable

  lists_machine : quotient_by M (classes_lent M.size after) (rows_lent M.size count after) ≡ quotient M
  lists_machine = ap₂ (quotient_by M) (classes_are ∙ f.classes) (rows_are ∙ f.rows)

  row-machine : row_machine M count after ≡ quotient M
  row-machine = ap₂ (quotient_by M) f.classes f.rows

  length_is : file_length count M.signs ≡ length (encode (quotient M))
  length_is = ap (λ (r : ℕ). file_length r M.signs) f.counted ∙ sym (encoded_length (quotient M))

module _ (file : List ℕ) (z : Sizes) (g : Good file z) (work out : List ℕ) where
  -- the machine whose bodies the call hands on
  abbrev pub machine_handed : Machine
  machine_handed = machine_in z.states z.signs z.start (marks_in file z) (nexts_in file z)

  given : shrink_leaves file work out ≡ shrink_by machine_handed work out
  unfolding shrink_leaves
  given =
      file_given file (work ∷ out ∷ []) _ (good_given g)
      ∙ by_machine file work out
      ∙ ap (λ (M : Machine). shrink_by M work out) (sym (machine_is file z g))

  pub shrink_narrow : length work < 16 * z.states → left (refuses 11 (16 * z.states)) (work ∷ out ∷ []) ≡ shrink_leaves file work out
  unfolding shrink_by
  shrink_narrow l = sym (given ∙ refuses_here 11 (16 * z.states) (work ∷ out ∷ []) _ (lt-ltb (length work) (16 * z.states) l))

  module _ (room : 16 * z.states ≤ length work) (after : List ℕ) (count takes : ℕ) (f : RowsFound machine_handed work after count takes) where
    abbrev file_long : ℕ
    file_long = length (encode (quotient machine_handed))

    long : file_length count z.signs ≡ file_long
    long = length_is machine_handed work after count takes f

    wiped : cleared (16 * z.states) after ≡ cleared (16 * z.states) work
    wiped = cleared_same (16 * z.states) after work f.long (λ j l. f.beyond j (omega arith))

    pub shrink_short : length out < file_length count z.signs
        → left (refuses 12 (file_length count z.signs)) (cleared (16 * z.states) after ∷ out ∷ []) ≡ shrink_leaves file work out
    unfolding shrink_by
    shrink_short l =
        ap₂ (λ (i : ℕ) (w : List ℕ). left (refuses 12 i) (w ∷ out ∷ [])) long wiped
        ∙ sym
        (given
        ∙ refuses_not 11 (16 * z.states) (work ∷ out ∷ []) _ (le-ltb (length work) (16 * z.states) room)
        ∙ refuses_here 12 file_long (cleared (16 * z.states) work ∷ out ∷ []) _ (lt-ltb (length out) file_long (omega (arith, long))))

    pub shrink_made : file_length count z.signs ≤ length out
        → left (gives (count ∷ file_length count z.signs ∷ [])) (cleared (16 * z.states) after ∷ written (encode (row_machine machine_handed count after)) out ∷ [])
        ≡ shrink_leaves file work out
    unfolding shrink_by
    shrink_made l =
        ap₂ left
        (ap₂ (λ (r i : ℕ). gives (r ∷ i ∷ [])) f.counted long)
        (ap₂ (λ (w : List ℕ) (M : Machine). w ∷ written (encode M) out ∷ []) wiped (row-machine machine_handed work after count takes f))
        ∙ sym
        (given
        ∙ refuses_not 11 (16 * z.states) (work ∷ out ∷ []) _ (le-ltb (length work) (16 * z.states) room)
        ∙ refuses_not 12 file_long (cleared (16 * z.states) work ∷ out ∷ []) _ (le-ltb (length out) file_long (omega (arith, long))))

-- the same of a table that is lent from the file
module _ (file : List ℕ) (t : Table) (h : TableOf file t) (work out : List ℕ) where
  abbrev n : ℕ
  n = t.nexts.sizes.states

  same : machine t ≡ machine_handed file t.nexts.sizes h.good work out
  same = ap₂ (λ (marks nexts : List ℕ). machine_in t.nexts.sizes.states t.nexts.sizes.signs t.nexts.sizes.start marks nexts) h.marks h.nexts

  module _ (room : 16 * n ≤ length work) (after : List ℕ) (count takes : ℕ) (f : RowsFound (machine t) work after count takes) where
    handed : RowsFound (machine_handed file t.nexts.sizes h.good work out) work after count takes
    handed = subst (λ (N : Machine). RowsFound N work after count takes) same f

    pub lent_short : length out < file_length count t.nexts.sizes.signs
        → left (refuses 12 (file_length count t.nexts.sizes.signs)) (cleared (16 * n) after ∷ out ∷ []) ≡ shrink_leaves file work out
    lent_short = shrink_short file t.nexts.sizes h.good work out room after count takes handed

    pub lent_made : file_length count t.nexts.sizes.signs ≤ length out
        → left (gives (count ∷ file_length count t.nexts.sizes.signs ∷ [])) (cleared (16 * n) after ∷ written (encode (quotient_by (machine t) (classes_lent n after) (rows_lent n count after))) out ∷ [])
        ≡ shrink_leaves file work out
    lent_made l =
        ap (λ (N : Machine). left (gives (count ∷ file_length count t.nexts.sizes.signs ∷ [])) (cleared (16 * n) after ∷ written (encode N) out ∷ []))
        (lists_machine (machine t) work after count takes f ∙ ap quotient same ∙ sym (row-machine (machine_handed file t.nexts.sizes h.good work out) work after count takes handed))
        ∙ shrink_made file t.nexts.sizes h.good work out room after count takes handed l
