-- What the loop of `splitting::runs::first_waiting` keeps: the states passed don't wait.
use Prim.Native.Nat.{ℕ, ◌<◌}
use mathlib.Core.Path.{◌≡◌}
use mathlib.Core.Bool.{false, not}
use lib.Dec.{eqb}
use Rattle.counting.specs.Lists.{at}
use Rattle.splitting.proofs.runs.first_waiting.Given as goal

abbrev pub invariant-loop-q : goal.invariant-loop-q
invariant-loop-q l = (p : ℕ) → p < l.q → not (eqb (at l.rooms.pendings.now p) 0) ≡ false
