-- What shrinking finds in the work slice before it writes.
use Rattle.std.specs.Prelude.{◌≡◌, List, ℕ, ◌*◌, ◌-◌, ◌≤◌, length}
use Rattle.counting.specs.Lists.{at}
use Rattle.automaton.specs.Machine.{Machine}
use Rattle.automaton.specs.Layers.{classes, class_count}
use Rattle.automaton.specs.Quotient.{rows}
use Rattle.shrinking.specs.Written.{rows_in, classes_in, Writable}

-- The rows stand in the work slice, ready to be written; takes made are those of a full splitting, k × (m − 1); all beyond the first 8 × n numbers is as it was.
pub record RowsFound (M : Machine) (before after : List ℕ) (count made : ℕ) : Type 0 where
  pub long : length after ≡ length before
  pub counted : count ≡ length (rows M)
  pub takes : made ≡ M.signs * (class_count M.size (classes M) - 1)
  pub rows : rows_in M.size count after ≡ rows M
  pub classes : classes_in M.size after ≡ classes M
  pub writable : Writable M count after
  pub beyond : (i : ℕ) → 8 * M.size ≤ i → at after i ≡ at before i
