-- What the loop of `telling::writing::write_word` keeps: the signs written are the word's, and what is to come is the word for the two states they lead to.
use Rattle.telling.proofs.Spellings.{Spelling}
use Rattle.telling.proofs.writing.write_word.Given as goal

abbrev pub invariant-loop-i : goal.invariant-loop-i
invariant-loop-i l = Spelling l.nexts l.last l.p l.q l.depth l.initial.word l.word l.one l.other l.i
