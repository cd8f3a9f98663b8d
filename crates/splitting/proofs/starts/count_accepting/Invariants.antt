-- What the loop of `splitting::starts::count_accepting` keeps: the accepting states before q are counted.
use mathlib.Core.Path.{◌≡◌}
use lib.Dec.{eqb}
use Rattle.counting.specs.Lists.{at}
use Rattle.counting.specs.Counts.{count}
use Rattle.splitting.proofs.starts.count_accepting.Given as goal

abbrev pub invariant-loop-q : goal.invariant-loop-q
invariant-loop-q l = l.accepting ≡ count l.q (λ x. eqb (at l.marks.bytes.now x) 1)
