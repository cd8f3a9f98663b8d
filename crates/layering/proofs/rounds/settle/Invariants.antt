-- What the loop of `layering::rounds::settle` keeps: the lists hold layer i.
use Prim.Native.Nat.{◌-◌}
use Rattle.automaton.specs.Layers.{rounds}
use Rattle.layering.specs.Work.{marked_by, Kept}
use Rattle.layering.specs.Layered.{AtLayer}
use Rattle.layering.proofs.rounds.settle.Given as goal

abbrev pub invariant-loop-rooms : goal.invariant-loop-rooms
invariant-loop-rooms l = record {
  kept : Kept l.initial.rooms l.rooms;
  layered : AtLayer (marked_by l.nexts l.fn.names) l.rounds l.rooms.names.now l.rooms.births.now l.rooms.parents.now;
}

abbrev pub decreases-loop-rooms : goal.decreases-loop-rooms
decreases-loop-rooms l = rounds (marked_by l.nexts l.fn.names) - l.rounds
