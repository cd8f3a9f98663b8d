-- What the loop of `layering::first::mark_names` keeps: the first q states are named, and zero and one are the first states of each mark among them.
use Rattle.counting.specs.Least.{IsFirst}
use Rattle.layering.specs.Layered.{FirstNamed}
use Rattle.layering.proofs.Beginning.{has}
use Rattle.layering.proofs.first.mark_names.Given as goal

abbrev pub invariant-loop-q : goal.invariant-loop-q
invariant-loop-q l = record {
  named : FirstNamed l.marks.bytes.now l.q l.initial.names l.names;
  zero : IsFirst l.q (has l.marks.bytes.now 0) l.zero;
  one : IsFirst l.q (has l.marks.bytes.now 1) l.one;
}
