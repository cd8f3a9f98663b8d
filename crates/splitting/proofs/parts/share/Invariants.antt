-- What the loop of `splitting::parts::share` keeps: the classes below p are shared.
use Rattle.splitting.specs.Parts.{numbers, Shared}
use Rattle.splitting.proofs.parts.share.Given as goal

abbrev pub invariant-loop-p : goal.invariant-loop-p
invariant-loop-p l = Shared l.signs l.p (numbers l.initial.sizes l.initial.firsts l.initial.gones l.initial.pendings) (numbers l.sizes l.firsts l.gones l.pendings)
