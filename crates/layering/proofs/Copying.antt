-- The class names written to the front of the result, and counted one by one.
use mathlib.Core.Path.{◌≡◌, refl, ap₂, ◌∙◌}
use mathlib.Core.Bool.{Bool, true, false}
use mathlib.Core.List.{List}
use Prim.Native.Nat.{ℕ, ◌+◌, ◌≤◌}
use native.Mathlib.Numerals.{add-one}
use mir.Val.{bool_byte}
use lib.Dec.{eqb}
use Rattle.counting.specs.Lists.{at}
use Rattle.counting.specs.Least.{pick}
use Rattle.counting.specs.Counts.{count}
use Rattle.counting.proofs.Tallies.{count_most}
use Rattle.automaton.specs.Layers.{class_count}

byte_pick : (b : Bool) → bool_byte b ≡ pick b 1 0
unfolding pick
byte_pick true = refl
byte_pick false = refl

pub names_none : (work : List ℕ) → 0 ≡ class_count 0 work
unfolding class_count count
names_none work = refl

pub names_more : (q names part : ℕ) (work : List ℕ) → names ≡ class_count q work → part ≡ bool_byte (eqb (at work q) q) → names + part ≡ class_count (q + 1) work
unfolding class_count count
names_more q names part work e f = rw (add-one q) (ap₂ ◌+◌ e (f ∙ byte_pick _))

pub names_most : (q : ℕ) (work : List ℕ) → class_count q work ≤ q
unfolding class_count
names_most q work = count_most q _
