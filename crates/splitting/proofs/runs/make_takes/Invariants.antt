-- What the loop of `splitting::runs::make_takes` keeps: so far every take was made, and the rooms hold the lists of the run.
use Rattle.table.specs.Tables.{unmarked}
use Rattle.splitting.proofs.Progress.{Progress}
use Rattle.splitting.proofs.runs.make_takes.Given as goal

abbrev pub invariant-loop-takes : goal.invariant-loop-takes
invariant-loop-takes l = Progress (unmarked l.nexts) l.initial.rooms l.rooms l.takes l.entries l.low
