-- What the loop of `layering::rounds::bucket_of` keeps: the names under the signs passed are mixed.
use Prim.Native.Nat.{◌<◌}
use mathlib.Core.Path.{◌≡◌}
use Rattle.table.specs.Tables.{unmarked}
use Rattle.layering.specs.Work.{mixed}
use Rattle.layering.proofs.rounds.bucket_of.Given as goal

abbrev pub invariant-loop-sign : goal.invariant-loop-sign
invariant-loop-sign l =
    (l.mixed ≡ mixed (unmarked l.nexts) l.names l.q l.sign) × (l.mixed < 4294967296)
