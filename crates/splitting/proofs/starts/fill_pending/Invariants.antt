-- What the loop of `splitting::starts::fill_pending` keeps: the pending of the states before q is written, and it is known whether one of them has the mark due.
use mathlib.Core.Path.{◌≡◌}
use lib.Dec.{eqb}
use Rattle.counting.specs.Lists.{at}
use Rattle.counting.specs.Counts.{any}
use Rattle.splitting.specs.Filling.{Filled}
use Rattle.splitting.proofs.starts.fill_pending.Given as goal

abbrev pub invariant-loop-q : goal.invariant-loop-q
invariant-loop-q l = (l.seen ≡ any l.q (λ y. eqb (at l.marks.bytes.now y) l.due)) × Filled l.signs l.due l.q l.marks.bytes.now l.initial.pending l.pending
