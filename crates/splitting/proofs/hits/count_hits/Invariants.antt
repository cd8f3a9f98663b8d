-- What the loop of `splitting::hits::count_hits` keeps: the states before x are counted.
use Rattle.table.specs.Tables.{unmarked}
use Rattle.splitting.specs.Work.{Counted}
use Rattle.splitting.proofs.hits.count_hits.Given as goal

abbrev pub invariant-loop-x : goal.invariant-loop-x
invariant-loop-x l = Counted (unmarked l.nexts) l.classes l.q l.a l.x l.leds l.touched l.entries
