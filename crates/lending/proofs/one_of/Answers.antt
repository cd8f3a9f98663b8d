-- `lending::one_of` meets its contract.
use mathlib.Core.Path.{refl}
use Rattle.counting.specs.Least.{pick}
use Rattle.lending.proofs.one_of.Goals as goal

pub returns-then-test : goal.returns-then-test
unfolding pick
returns-then-test c = rw c.if-test.true refl

pub returns-else-test : goal.returns-else-test
unfolding pick
returns-else-test c = rw c.if-test.false refl
