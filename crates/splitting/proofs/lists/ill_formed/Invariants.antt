-- What the loop of `splitting::lists::ill_formed` keeps: the states passed keep the rules.
use Prim.Native.Nat.{ℕ, ◌<◌}
use mathlib.Core.Path.{◌≡◌}
use mathlib.Core.Bool.{false, not}
use Rattle.refining.specs.Lists.{formed}
use Rattle.splitting.specs.Work.{lists}
use Rattle.splitting.proofs.lists.ill_formed.Given as goal

abbrev pub invariant-loop-q : goal.invariant-loop-q
invariant-loop-q l = (p : ℕ) → p < l.q → not (formed l.signs (lists l.n l.class l.pending) p) ≡ false
