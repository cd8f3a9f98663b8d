-- What the loop of `layering::rounds::run_round` keeps: the round so far.
use Rattle.table.specs.Tables.{unmarked}
use Rattle.layering.specs.Work.{numbers_of, Kept, Rounded}
use Rattle.layering.proofs.rounds.run_round.Given as goal

abbrev pub invariant-loop-q : goal.invariant-loop-q
invariant-loop-q l = record {
  kept : Kept l.fn.rooms l.rooms;
  rounded : Rounded (unmarked l.nexts) (numbers_of l.fn.rooms) (numbers_of l.rooms) l.layer l.q l.changed;
}
