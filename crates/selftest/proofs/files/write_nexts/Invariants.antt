-- Invariant of `write_nexts`: the first i next states are written.
use Rattle.std.proofs.Common.{◌≡◌, take}
use Rattle.std.proofs.lemmas.List.Edits.{sets}
use Rattle.selftest.specs.Samples.{pairs}
use Rattle.selftest.proofs.files.write_nexts.Given as goal

abbrev pub invariant-loop-i : goal.invariant-loop-i
invariant-loop-i l = l.out ≡ sets l.initial.out l.begin (pairs (take l.i l.nexts))
