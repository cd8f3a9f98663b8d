-- The file of the rows in lent memory, and its bytes part by part.
use Rattle.std.specs.Prelude.{◌≡◌, List, ◌∷◌, ◌++◌, ℕ, ◌+◌, ◌*◌, ◌≤◌, ◌<◌, length, take, drop}
use Rattle.counting.specs.Lists.{at, tab, flat}
use Rattle.counting.specs.Counts.{place}
use Rattle.automaton.specs.Machine.{Machine}
use Rattle.automaton.specs.Quotient.{quotient_by}
use Rattle.lending.specs.Pairs.{pair}
use Rattle.table.specs.Encoding.{field_of}
use Rattle.shrinking.specs.declared.writing.RowLists.{RowLists}

-- The rows can be written: they are states; there are a number and a class for each state; and the class of the start and of each next state of a row has the
-- number of its row.
pub record WritableBy (M : Machine) (rows numbers classes : List ℕ) : Type 0 where
  pub some : 0 < length rows
  pub most : length rows ≤ M.size
  pub numbered : length numbers ≡ M.size
  pub classed : length classes ≡ M.size
  pub states : (i : ℕ) → i < length rows → at rows i < M.size
  pub inside : (q : ℕ) → q < M.size → at classes q < M.size
  pub start : at numbers (at classes M.start) ≡ place rows (at classes M.start)
  pub nexts : (i a : ℕ) → i < length rows → a < M.signs → at numbers (at classes (M.next (at rows i) a)) ≡ place rows (at classes (M.next (at rows i) a))

-- in the work slice: the class names of the rows, the number of each row's class, and the classes of the states
abbrev pub rows_in : ℕ → ℕ → List ℕ → List ℕ
rows_in n rows work = take rows (drop (3 * n) work)

abbrev pub numbers_in : ℕ → List ℕ → List ℕ
numbers_in n work = take n (drop (2 * n) work)

abbrev pub classes_in : ℕ → List ℕ → List ℕ
classes_in n work = take n (drop (6 * n) work)

-- the machine over row numbers
abbrev pub row_machine : Machine → ℕ → List ℕ → Machine
row_machine M rows work = quotient_by M (classes_in M.size work) (rows_in M.size rows work)

-- so many rows can be written from there
abbrev pub Writable : Machine → ℕ → List ℕ → Type 0
Writable M rows work = WritableBy M (rows_in M.size rows work) (numbers_in M.size work) (classes_in M.size work)

-- how long the file of some rows and k signs is
abbrev pub file_length : ℕ → ℕ → ℕ
file_length rows k = 12 + rows + 3 + 2 * (rows * k)

-- the row number of a state's class
abbrev pub row_of : RowLists → ℕ → ℕ
row_of lists q = at lists.numbers.now (at lists.classes.now q)

-- field 1, and the head of field 2
unfoldable pub sizes_bytes : ℕ → ℕ → ℕ → List ℕ
sizes_bytes rows k start = field_of 1 (pair rows ++ pair k ++ pair start) ++ 2 ∷ pair rows

-- the marks of the first i rows
unfoldable pub marks_bytes : List ℕ → List ℕ → ℕ → List ℕ
marks_bytes marks rows i = tab i (λ j. at marks (at rows j))

-- the next states of the row i under the first a signs
unfoldable pub row_bytes : Machine → RowLists → ℕ → ℕ → List ℕ
row_bytes M lists i a = flat a (λ b. pair (row_of lists (M.next (at lists.rows.now i) b)))

-- the next states of the first i rows
unfoldable pub rows_bytes : Machine → RowLists → ℕ → List ℕ
rows_bytes M lists i = flat i (λ j. row_bytes M lists j M.signs)
