-- `shrinking::reaching::sweep` meets its contract. The loop's invariant: the sweep over the first q states.
use mathlib.Core.Path.{refl}
use mathlib.Core.List.{[]}
use Rattle.table.proofs.Handing.{held_lawful}
use Rattle.shrinking.proofs.Sweeping.{sweep_more}
use Rattle.shrinking.proofs.reaching.sweep.Goals as goal

pub loop-q-preserved : goal.loop-q-preserved
loop-q-preserved c =
    let l = c.loop-q in
    sweep_more _ (held_lawful [] c.args.nexts.now.held) l.q c.loop-q-test.true c.args.reached.now l.reached _ l.new _ _ c.requires.sound l.invariant c.spread_marked-new.ensures refl
