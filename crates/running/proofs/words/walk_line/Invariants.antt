-- What the loop of `running::words::walk_line` keeps: the state is where the signs of the bytes passed lead.
use Prim.Native.Nat.{◌<◌}
use mathlib.Core.Path.{◌≡◌}
use lib.ListN.{take}
use Rattle.automaton.specs.Words.{steps}
use Rattle.table.specs.Tables.{unmarked}
use Rattle.running.specs.Plan.{spelled}
use Rattle.running.proofs.words.walk_line.Given as goal

abbrev pub invariant-loop-byte : goal.invariant-loop-byte
invariant-loop-byte l = record {
  led : l.state ≡ steps (unmarked l.nexts) l.nexts.sizes.start (take l.byte-index (spelled l.plan l.line));
  inside : l.state < l.nexts.sizes.states;
}
