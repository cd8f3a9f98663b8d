-- `table::fields::part_in` meets its contract: each arm is a case of `body_in`.
use mathlib.Core.Path.{refl}
use Rattle.std.proofs.Common.{arith}
use Rattle.std.proofs.lemmas.Bool.Decides.{nat_tests}
use Rattle.table.proofs.Places.{empty_part}
use Rattle.counting.specs.Least.{pick}
use Rattle.table.specs.Bodies.{body_in}
use Rattle.table.proofs.fields.part_in.Goals as goal

pub returns-in-1 : goal.returns-in-1
unfolding body_in pick
returns-in-1 c = rw c.in-1.is refl

pub returns-in-2 : goal.returns-in-2
unfolding body_in pick
returns-in-2 c = rw c.in-2.is refl

pub returns-in-3 : goal.returns-in-3
unfolding body_in pick
returns-in-3 c = rw c.in-3.is refl

pub returns-in_default : goal.returns-in_default
unfolding body_in pick
returns-in_default c = rw (empty_part _ c.default.ensures) (grind (arith, nat_tests))
