-- `lending::copy_over` meets its contract. The loop's invariant: the numbers below i are copied.
use mathlib.Core.Path.{◌≡◌}
use Prim.Native.Nat.{ℕ, ◌<◌}
use lib.ListN.{length}
use Rattle.counting.specs.Lists.{at}
use Rattle.lending.proofs.copy_over.Given as goal

abbrev pub invariant-loop-i : goal.invariant-loop-i
invariant-loop-i l = (length l.to ≡ length l.from) × ((j : ℕ) → j < l.i → at l.to j ≡ at l.from j)
