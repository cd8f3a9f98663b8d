-- What the loop of `layering::rounds::seek_name` keeps: the new names of the state's bucket above r are not alike. The measure is r: links fall.
use Rattle.table.specs.Tables.{unmarked}
use Rattle.layering.specs.Work.{numbers_of}
use Rattle.layering.proofs.Buckets.{Passed}
use Rattle.layering.proofs.rounds.seek_name.Given as goal

abbrev pub invariant-loop-r : goal.invariant-loop-r
invariant-loop-r l = Passed (unmarked l.nexts) (numbers_of l.rooms) l.q l.r

abbrev pub decreases-loop-r : goal.decreases-loop-r
decreases-loop-r l = l.r
