-- `layering::rounds::settle` meets its contract.
use mathlib.Core.Path.{ap, ◌∙◌}
use lib.ListN.{length}
use Rattle.std.proofs.Common.{rules}
use native.Mathlib.Omega.{arith}
use Rattle.automaton.proofs.Alikes.{layer-length}
use Rattle.layering.specs.Work.{marked_by}
use Rattle.layering.proofs.Descent.{layer_named, round_small, round_rests, round_unsettled, round_deepens}
use Rattle.layering.proofs.rounds.settle.Goals as goal

pub overflow_add-rounds : goal.overflow_add-rounds
overflow_add-rounds c = omega (arith, round_small c.args.nexts.now c.args.names.now c.loop-rooms.invariant.layered)

pub overflow_add-rounds-in-loop-rooms : goal.overflow_add-rounds-in-loop-rooms
overflow_add-rounds-in-loop-rooms c = omega (arith, round_small c.args.nexts.now c.args.names.now c.loop-rooms.invariant.layered)

pub run_round-requires-clause-room : goal.run_round-requires-clause-room
run_round-requires-clause-room c =
    ap length c.loop-rooms.invariant.layered.named ∙ layer-length (marked_by c.args.nexts.now c.args.names.now) c.loop-rooms.rounds

pub run_round-requires-clause-small : goal.run_round-requires-clause-small
run_round-requires-clause-small c = omega (arith, round_small c.args.nexts.now c.args.names.now c.loop-rooms.invariant.layered)

pub run_round-requires-clause-named : goal.run_round-requires-clause-named
run_round-requires-clause-named c =
    layer_named (marked_by c.args.nexts.now c.args.names.now) c.loop-rooms.rounds _ c.loop-rooms.invariant.layered.named

pub returns : goal.returns
returns c =
    let round = c.run_round in
    let rested = round_rests c.args.nexts.now c.args.names.now round.ensures.rounded round.new.rooms.sized.long-laters c.loop-rooms.invariant.layered c.loop-rooms-test.false in
    search (rules, rested)

pub loop-rooms-smaller : goal.loop-rooms-smaller
loop-rooms-smaller c =
    let round = c.run_round in
    omega (arith, round_unsettled c.args.nexts.now c.args.names.now round.ensures.rounded round.new.rooms.sized.long-laters c.loop-rooms.invariant.layered c.loop-rooms-test.true)

pub loop-rooms-preserved : goal.loop-rooms-preserved
loop-rooms-preserved c =
    let round = c.run_round in
    record {
      kept = search rules;
      layered = round_deepens c.args.nexts.now c.args.names.now round.ensures.rounded round.new.rooms.sized.long-laters c.loop-rooms.invariant.layered _ c.loop-rooms-test.true c.advance.ensures.moved;
    }
