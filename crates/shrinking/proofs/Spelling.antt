-- The file of the rows is its parts, one behind the other: field 1 with the head of field 2, the marks, field 3.
-- Rests on the laws of stores, and on which machine is written.
use mathlib.Core.Path.{◌≡◌, refl, sym, ap, ◌∙◌}
use mathlib.Core.List.{List, [], ◌∷◌, ◌++◌}
use Prim.Native.Nat.{ℕ, ◌+◌, ◌≤◌}
use native.Mathlib.Omega.{arith}
use lib.ListN.{length, length-append}
use lib.Seq.{sets}
use Rattle.counting.specs.Lists.{at, tab}
use Rattle.counting.proofs.Tabs.{tab-length}
use Rattle.automaton.specs.Machine.{Machine, Agree}
use Rattle.automaton.specs.Quotient.{quotient_by}
use Rattle.lending.specs.Memory.{written}
use Rattle.lending.specs.Pairs.{pair}
use Rattle.lending.proofs.Grids.{grid}
use Rattle.table.specs.Encoding.{machine_in, field_of, encode}
use Rattle.table.specs.Tables.{unmarked, machine_with}
use Rattle.table.specs.declared.tables.NextStates.{NextStates}
use Rattle.table.proofs.Encodings.{encoded_length, encode-agree}
use Rattle.shrinking.specs.Written.{WritableBy, file_length, row_of, sizes_bytes, marks_bytes, row_bytes, rows_bytes}
use Rattle.shrinking.specs.declared.writing.RowLists.{RowLists}
use Rattle.shrinking.proofs.Stores.{sets-append, sets-written, sizes_length, marks_length}

-- the marks do not matter to whether the rows can be written
pub writable_unmarked : (n k start : ℕ) (marks nexts rows numbers classes : List ℕ) → WritableBy (machine_in n k start marks nexts) rows numbers classes
    → WritableBy (machine_in n k start [] nexts) rows numbers classes
writable_unmarked n k start marks nexts rows numbers classes w = record {
  some = w.some;
  most = w.most;
  numbered = w.numbered;
  classed = w.classed;
  states = w.states;
  inside = w.inside;
  start = w.start;
  nexts = w.nexts;
}

module _ (t : NextStates) (marks : List ℕ) (lists : RowLists) where
  abbrev M : Machine
  M = machine_with t marks

  abbrev rows : List ℕ
  rows = lists.rows.now

  abbrev count : ℕ
  count = length rows

  -- the machine whose marks and next states are those that are written
  abbrev spelt : Machine
  spelt = record {
    size = count;
    signs = M.signs;
    start = row_of lists M.start;
    next = λ i a. row_of lists (M.next (at rows i) a);
    kind = λ i. at marks (at rows i);
  }

  parts : encode spelt ≡ sizes_bytes count M.signs spelt.start ++ marks_bytes marks rows count ++ field_of 3 (rows_bytes (unmarked t) lists count)
  unfolding encode field_of pair sizes_bytes marks_bytes rows_bytes row_bytes
  parts =
      ap (λ (l : ℕ). field_of 1 (pair count ++ pair M.signs ++ pair spelt.start) ++ (2 ∷ pair l ++ tab count spelt.kind) ++ field_of 3 (grid count M.signs spelt.next)) (tab-length count spelt.kind)

  module _ (w : WritableBy M rows lists.numbers.now lists.classes.now) where
    same : Agree (quotient_by M lists.classes.now rows) spelt
    same = record {
      size = refl;
      signs = refl;
      start = sym w.start;
      next = λ i a l m. sym (w.nexts i a l m);
      kind = λ i l. refl;
    }

    -- the parts stored one behind the other are the file at the front
    pub file_stored : (out : List ℕ) → file_length count M.signs ≤ length out
        → sets (sets (sets out 0 (sizes_bytes count M.signs (row_of lists M.start))) 12 (marks_bytes marks rows count)) (12 + count) (field_of 3 (rows_bytes (unmarked t) lists count))
        ≡ written (encode (quotient_by M lists.classes.now rows)) out
    file_stored out room =
        ap (λ (s : List ℕ). sets s (12 + count) field) (sets-append out 0 sizes (marks_bytes marks rows count) 12 (sizes_length count M.signs _))
        ∙ sets-append out 0 (sizes ++ marks_bytes marks rows count) field (12 + count) (omega (arith, length-append sizes (marks_bytes marks rows count), sizes_length count M.signs spelt.start, marks_length marks rows count))
        ∙ ap (sets out 0) (sym parts)
        ∙ sets-written out (encode spelt) (omega (arith, encoded_length spelt))
        ∙ ap (λ (s : List ℕ). written s out) (sym (encode-agree same))
      where
        sizes : List ℕ
        sizes = sizes_bytes count M.signs spelt.start

        field : List ℕ
        field = field_of 3 (rows_bytes (unmarked t) lists count)
