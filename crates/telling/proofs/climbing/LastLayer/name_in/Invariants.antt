-- What the loop of `telling::climbing::LastLayer::name_in` keeps: the state has this name in a layer that is not before the one asked. The measure is the name.
use Rattle.telling.proofs.Ancestors.{Climbed}
use Rattle.telling.proofs.climbing.LastLayer.name_in.Given as goal

abbrev pub invariant-loop-name : goal.invariant-loop-name
invariant-loop-name l = Climbed l.self l.x l.layer l.name

abbrev pub decreases-loop-name : goal.decreases-loop-name
decreases-loop-name l = l.name
