-- The loop's invariant of `shrinking::writing::write_row`: the next states under the first a signs are written.
use mathlib.Core.Path.{◌≡◌}
use lib.Seq.{sets}
use Rattle.table.specs.Tables.{unmarked}
use Rattle.shrinking.specs.Written.{row_bytes}
use Rattle.shrinking.proofs.writing.write_row.Given as goal

abbrev pub invariant-loop-a : goal.invariant-loop-a
invariant-loop-a l = l.out ≡ sets l.initial.out l.from (row_bytes (unmarked l.nexts) l.lists l.i l.a)
