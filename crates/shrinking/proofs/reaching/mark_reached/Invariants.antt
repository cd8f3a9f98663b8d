-- The loop's invariant of `shrinking::reaching::mark_reached`: the start and only reached states are marked.
use lib.Dec.{eqb}
use Rattle.counting.specs.Lists.{at}
use Rattle.counting.specs.Counts.{count}
use Rattle.table.specs.Tables.{unmarked}
use Rattle.shrinking.specs.Reached.{Sound}
use Rattle.shrinking.proofs.reaching.mark_reached.Given as goal

abbrev pub invariant-loop : goal.invariant-loop
invariant-loop l = Sound (unmarked l.nexts) l.reached

abbrev pub decreases-loop : goal.decreases-loop
decreases-loop l = count l.nexts.sizes.states (λ x. eqb (at l.reached x) 0)
