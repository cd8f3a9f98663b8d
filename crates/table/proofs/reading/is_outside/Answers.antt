-- `table::reading::is_outside` meets its contract: at each `return` the tests that led there decide `outside`.
use borrow.Author.Tests.{eq-eqb, ne_eqb, lt-ltb, le-ltb}
use Rattle.table.specs.Judging.{outside}
use Rattle.table.proofs.reading.is_outside.Goals as goal

pub returns-then-n-eq0 : goal.returns-then-n-eq0
unfolding outside
returns-then-n-eq0 c = rw (eq-eqb _ 0 c.if-n-eq0.true)

pub returns-then-n-gt1024 : goal.returns-then-n-gt1024
unfolding outside
returns-then-n-gt1024 c = rw (ne_eqb _ 0 c.if-n-eq0.false, lt-ltb 1024 _ c.if-n-gt1024.true)

pub returns-then-k-eq0 : goal.returns-then-k-eq0
unfolding outside
returns-then-k-eq0 c = rw (ne_eqb _ 0 c.if-n-eq0.false, le-ltb 1024 _ c.if-n-gt1024.false, eq-eqb _ 0 c.if-k-eq0.true)

pub returns-then-k-gt64 : goal.returns-then-k-gt64
unfolding outside
returns-then-k-gt64 c =
    rw (ne_eqb _ 0 c.if-n-eq0.false, le-ltb 1024 _ c.if-n-gt1024.false, ne_eqb _ 0 c.if-k-eq0.false, lt-ltb 64 _ c.if-k-gt64.true)

pub returns : goal.returns
unfolding outside
returns c =
    rw (ne_eqb _ 0 c.if-n-eq0.false, le-ltb 1024 _ c.if-n-gt1024.false, ne_eqb _ 0 c.if-k-eq0.false, le-ltb 64 _ c.if-k-gt64.false)
