-- `shrinking::reaching::mark_reached` meets its contract. The loop's invariant: the start and only reached states are marked.
use mathlib.Core.List.{[]}
use Rattle.table.proofs.Handing.{held_lawful}
use Rattle.shrinking.proofs.Sweeping.{sound_start, found_quiet, fewer_unmarked}
use borrow.Author.Rules.{rules}
use native.Mathlib.Omega.{arith}
use Rattle.shrinking.proofs.reaching.mark_reached.Goals as goal

pub loop-init : goal.loop-init
loop-init c = sound_start _ (held_lawful [] c.args.nexts.now.held) c.fill.new.self (omega arith) (λ x l. search rules)

pub returns : goal.returns
returns c = found_quiet _ (held_lawful [] c.args.nexts.now.held) c.loop.reached _ _ c.loop-test.false c.sweep.ensures

pub loop-smaller : goal.loop-smaller
loop-smaller c = fewer_unmarked _ c.loop.reached _ _ c.loop-test.true c.loop.invariant c.sweep.ensures
