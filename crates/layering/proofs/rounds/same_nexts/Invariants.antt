-- What the loop of `layering::rounds::same_nexts` keeps: under the signs passed the next states have the same names.
use Prim.Native.Nat.{ℕ, ◌<◌}
use mathlib.Core.Path.{◌≡◌}
use mathlib.Core.Bool.{true}
use lib.Dec.{eqb}
use Rattle.counting.specs.Lists.{at}
use Rattle.automaton.specs.Machine.{Machine}
use Rattle.table.specs.Tables.{unmarked}
use Rattle.layering.proofs.rounds.same_nexts.Given as goal

abbrev pub invariant-loop-a : goal.invariant-loop-a
invariant-loop-a l =
    let M : Machine = unmarked l.nexts in
    (b : ℕ) → b < l.a → eqb (at l.names (M.next l.q b)) (at l.names (M.next l.r b)) ≡ true
