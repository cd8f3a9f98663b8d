-- The loop's invariant of `shrinking::rows::flag_classes`: the classes of the first q marked states are flagged.
use Rattle.shrinking.specs.Reached.{Flagged}
use Rattle.shrinking.proofs.rows.flag_classes.Given as goal

abbrev pub invariant-loop-q : goal.invariant-loop-q
invariant-loop-q l = Flagged l.reached l.classes l.q l.flags
