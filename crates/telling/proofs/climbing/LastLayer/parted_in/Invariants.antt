-- What the loop of `telling::climbing::LastLayer::parted_in` keeps: the states have these names, which differ, in some layer. The measure is the names' sum.
use Prim.Native.Nat.{◌+◌}
use Rattle.telling.proofs.Ancestors.{Traced}
use Rattle.telling.proofs.climbing.LastLayer.parted_in.Given as goal

abbrev pub invariant-loop-p : goal.invariant-loop-p
invariant-loop-p l = Traced l.self l.p l.q l.one l.other

abbrev pub decreases-loop-p : goal.decreases-loop-p
decreases-loop-p l = l.one + l.other
