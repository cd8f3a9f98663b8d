-- The loop's invariant of `shrinking::reaching::sweep`: the sweep over the first q states.
use Rattle.table.specs.Tables.{unmarked}
use Rattle.shrinking.proofs.Sweeping.{Sweeping}
use Rattle.shrinking.proofs.reaching.sweep.Given as goal

abbrev pub invariant-loop-q : goal.invariant-loop-q
invariant-loop-q l = Sweeping (unmarked l.nexts) l.q l.initial.reached l.reached l.new
