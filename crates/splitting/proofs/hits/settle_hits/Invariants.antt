-- What the loop of `splitting::hits::settle_hits` keeps: the classes touched before place j are looked through.
use Rattle.splitting.proofs.Unleading.{Unleading}
use Rattle.splitting.proofs.hits.settle_hits.Given as goal

abbrev pub invariant-loop-j : goal.invariant-loop-j
invariant-loop-j l = Unleading l.j l.sizes l.touched l.initial.leds l.leds l.split
