-- What the loop of `running::words::walk_word` keeps: the signs passed are the table's, and q is where they lead.
use Prim.Native.Nat.{ℕ, ◌<◌}
use mathlib.Core.Path.{◌≡◌}
use mathlib.Core.Bool.{false}
use lib.Dec.{leb}
use lib.ListN.{take}
use Rattle.counting.specs.Lists.{at}
use Rattle.automaton.specs.Words.{steps}
use Rattle.table.specs.Tables.{unmarked}
use Rattle.running.proofs.words.walk_word.Given as goal

abbrev pub invariant-loop-i : goal.invariant-loop-i
invariant-loop-i l = record {
  known : (j : ℕ) → j < l.i → leb l.nexts.sizes.signs (at l.word j) ≡ false;
  led : l.q ≡ steps (unmarked l.nexts) l.nexts.sizes.start (take l.i l.word);
  inside : l.q < l.nexts.sizes.states;
}
