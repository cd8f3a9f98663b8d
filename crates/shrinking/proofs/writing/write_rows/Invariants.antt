-- The loop's invariant of `shrinking::writing::write_rows`: the next states of the first i rows are written.
use Prim.Native.Nat.{◌+◌}
use mathlib.Core.Path.{◌≡◌}
use lib.Seq.{sets}
use Rattle.table.specs.Tables.{unmarked}
use Rattle.shrinking.specs.Written.{rows_bytes}
use Rattle.shrinking.proofs.writing.write_rows.Given as goal

abbrev pub invariant-loop-i : goal.invariant-loop-i
invariant-loop-i l = l.out ≡ sets l.initial.out (l.tag + 3) (rows_bytes (unmarked l.nexts) l.lists l.i)
