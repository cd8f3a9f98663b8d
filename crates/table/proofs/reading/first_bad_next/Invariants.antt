-- `table::reading::first_bad_next` meets its contract. The loop's invariant: the next states passed are below n.
use Prim.Native.Nat.{ℕ, ◌*◌, ◌<◌}
use mathlib.Core.Path.{◌≡◌}
use mathlib.Core.Bool.{false}
use lib.Dec.{leb}
use Rattle.lending.specs.Pairs.{pair_at}
use Rattle.table.proofs.reading.first_bad_next.Given as goal

abbrev pub invariant-loop-i : goal.invariant-loop-i
invariant-loop-i l = (j : ℕ) → j < l.i → leb l.n (pair_at l.nexts (2 * j)) ≡ false
