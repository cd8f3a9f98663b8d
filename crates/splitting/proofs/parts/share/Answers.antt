-- `splitting::parts::share` meets its contract.
use native.Mathlib.Omega.{arith}
use Rattle.splitting.specs.Parts.{numbers}
use Rattle.splitting.proofs.Sharing.{shared_none, first_ahead, part_ahead, shared_more}
use Rattle.splitting.proofs.parts.share.Goals as goal

pub loop-p-init : goal.loop-p-init
loop-p-init c = shared_none _ _

pub share_class-requires-clause-within : goal.share_class-requires-clause-within
share_class-requires-clause-within c =
    let l = c.loop-p in
    let t = c.loop-p-test.true in
    let e = first_ahead _ _ _ (numbers l.sizes l.firsts l.gones l.pendings) t l.invariant c.requires.fit in
    (omega (arith, t, l.auto.sizes), omega (arith, e, (c.requires.fit.within l.p t).0, l.auto.sizes))

pub share_class-requires-clause-part : goal.share_class-requires-clause-part
share_class-requires-clause-part c =
    let l = c.loop-p in
    part_ahead _ _ _ (numbers l.sizes l.firsts l.gones l.pendings) c.loop-p-test.true l.invariant c.requires.fit

pub loop-p-preserved : goal.loop-p-preserved
loop-p-preserved c =
    let l = c.loop-p in
    shared_more _ _ _ (numbers l.sizes l.firsts l.gones l.pendings) c.loop-p-test.true l.invariant c.requires.fit _ c.share_class.ensures
