-- What the loop of `splitting::parts::rename` keeps: the states below x are named anew.
use Rattle.table.specs.Tables.{unmarked}
use Rattle.splitting.specs.Work.{Renamed}
use Rattle.splitting.proofs.parts.rename.Given as goal

abbrev pub invariant-loop-x : goal.invariant-loop-x
invariant-loop-x l = Renamed (unmarked l.nexts) l.classes l.q l.a l.x l.firsts l.gones l.renamed
