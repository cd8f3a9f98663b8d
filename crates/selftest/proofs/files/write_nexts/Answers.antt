-- One next state more written, as two bytes, is the front of the next states one longer.
use Rattle.std.proofs.Common.{refl}
use Rattle.selftest.specs.Samples.{pairs}
use Rattle.selftest.proofs.Filing.{pair_more}
use Rattle.selftest.proofs.files.write_nexts.Goals as goal

pub loop-i-init : goal.loop-i-init
unfolding pairs
loop-i-init c = refl

pub loop-i-preserved : goal.loop-i-preserved
loop-i-preserved c =
    let l = c.loop-i in
    pair_more c.args.out.now c.args.nexts.now c.args.begin l.i c.loop-i-test.true l.out _ _ _ l.invariant refl c.from.ensures c.put_pair.ensures
