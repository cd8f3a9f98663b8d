-- The loop's invariant of `shrinking::writing::write_marks`: the marks of the first i rows are written.
use mathlib.Core.Path.{◌≡◌}
use lib.Seq.{sets}
use Rattle.shrinking.specs.Written.{marks_bytes}
use Rattle.shrinking.proofs.writing.write_marks.Given as goal

abbrev pub invariant-loop-i : goal.invariant-loop-i
invariant-loop-i l = l.out ≡ sets l.initial.out 12 (marks_bytes l.marks l.rows l.i)
