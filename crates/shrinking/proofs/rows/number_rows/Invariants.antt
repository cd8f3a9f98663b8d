-- The loop's invariant of `shrinking::rows::number_rows`: the flagged classes below c are numbered and listed.
use Rattle.shrinking.specs.Reached.{Numbered}
use Rattle.shrinking.proofs.rows.number_rows.Given as goal

abbrev pub invariant-loop-c : goal.invariant-loop-c
invariant-loop-c l = Numbered l.flags l.c l.numbers l.rows l.count
