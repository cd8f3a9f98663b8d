-- What the loop of `splitting::runs::count_sizes` keeps: the first x states are counted.
use Rattle.splitting.specs.Work.{Counting}
use Rattle.splitting.proofs.runs.count_sizes.Given as goal

abbrev pub invariant-loop-x : goal.invariant-loop-x
invariant-loop-x l = Counting l.x l.classes l.sizes
