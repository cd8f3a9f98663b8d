-- The loop's invariant of `shrinking::reaching::spread`: the next states under the first a signs are marked.
use Rattle.table.specs.Tables.{unmarked}
use Rattle.shrinking.specs.Reached.{Spread}
use Rattle.shrinking.proofs.reaching.spread.Given as goal

abbrev pub invariant-loop-a : goal.invariant-loop-a
invariant-loop-a l = Spread (unmarked l.nexts) l.q l.a l.initial.reached l.reached l.new
