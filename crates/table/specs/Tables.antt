-- What stands in a file as a table lent from it: its machine, and what the reading of a table answers.
use Rattle.std.specs.Prelude.{◌≡◌, List, [], ℕ, ◌+◌, ◌*◌, Result, Ok, Err}
use Rattle.automaton.specs.Machine.{Machine}
use Rattle.table.specs.Accepted.{Good}
use Rattle.table.specs.Answers.{refusal}
use Rattle.table.specs.Bodies.{part}
use Rattle.table.specs.Encoding.{machine_in}
use Rattle.table.specs.Judging.{judged}
use Rattle.table.specs.declared.answer.Refusal.{Refusal}
use Rattle.table.specs.declared.tables.NextStates.{NextStates}
use Rattle.table.specs.declared.tables.Table.{Table}

-- the machine of a table
abbrev pub machine : Table → Machine
machine t = machine_in t.nexts.sizes.states t.nexts.sizes.signs t.nexts.sizes.start t.marks.bytes.now t.nexts.bytes.now

-- the machine of next states alone, in which every mark is 0
abbrev pub unmarked : NextStates → Machine
unmarked t = machine_in t.sizes.states t.sizes.signs t.sizes.start [] t.bytes.now

-- the machine of next states with these marks
abbrev pub machine_with : NextStates → List ℕ → Machine
machine_with t marks = machine_in t.sizes.states t.sizes.signs t.sizes.start marks t.bytes.now

-- The table is the file's: its sizes, and the bodies of fields 2 and 3.
pub record TableOf (file : List ℕ) (t : Table) : Type 0 where
  pub good : Good file t.nexts.sizes
  pub marks : t.marks.bytes.now ≡ part file 12 t.nexts.sizes.states
  pub nexts : t.nexts.bytes.now ≡ part file (12 + t.nexts.sizes.states + 3) (2 * (t.nexts.sizes.states * t.nexts.sizes.signs))

-- what the reading of a table answers: the table of the file, or the refusal of the file
abbrev pub TableIn : List ℕ → Result Table Refusal → Type 0
TableIn file (Ok t) = TableOf file t
TableIn file (Err r) = judged file ≡ refusal r
