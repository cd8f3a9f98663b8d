-- `table::reading::first_bad_next` meets its contract.
use native.Mathlib.Omega.{arith}
use borrow.Author.Count.{below_more}
use borrow.Author.Tests.{le-leb, lt-leb}
use Rattle.table.proofs.reading.first_bad_next.Goals as goal

pub returns-then-n-pair_at : goal.returns-then-n-pair_at
returns-then-n-pair_at c =
    (omega (arith, c.loop-i-test.true), le-leb _ _ (rw c.pair_at.ensures.value at c.if-n-pair_at.true), c.loop-i.invariant)

pub loop-i-preserved : goal.loop-i-preserved
loop-i-preserved c = below_more _ _ c.loop-i.invariant (lt-leb _ _ (rw c.pair_at.ensures.value at c.if-n-pair_at.false))
