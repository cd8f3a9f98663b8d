-- What the loop of `telling::writing::parting_sign` keeps: under the signs passed the next states have one name in the layer.
use Rattle.telling.proofs.Spellings.{Unparted}
use Rattle.telling.proofs.writing.parting_sign.Given as goal

abbrev pub invariant-loop-a : goal.invariant-loop-a
invariant-loop-a l = Unparted l.nexts l.last l.p l.q l.layer l.a
