-- `splitting::parts::rename` meets its contract.
use Prim.Native.Nat.{◌<◌}
use native.Mathlib.Omega.{arith}
use Rattle.splitting.proofs.Renaming.{renamed_none, gone_small, renamed_more, goes_by_lem}
use Rattle.splitting.proofs.parts.rename.Goals as goal

pub loop-x-init : goal.loop-x-init
loop-x-init c = renamed_none _ _ _ _ _ _ _ c.requires.room c.requires.idle

pub name_anew-requires-clause-small : goal.name_anew-requires-clause-small
name_anew-requires-clause-small c =
    let l = c.loop-x in
    let k : c.number_at-c.result < c.args.nexts.now.sizes.states = omega (arith, c.number_at-c.ensures.value, c.requires.classed.low l.x c.loop-x-test.true) in
    let few = c.args.nexts.now.held.range.states_most in
    (omega (arith, gone_small _ _ _ _ _ _ _ _ l.invariant c.number_at-c.result k, few), omega (arith, few), omega (arith, few))

pub loop-x-preserved : goal.loop-x-preserved
loop-x-preserved c =
    let e = c.number_at-c.ensures.value in
    renamed_more _ _ _ _ _ _ _ _ c.loop-x.invariant _ _ _ _ _ c.loop-x-test.true c.requires.classed e (goes_by_lem _ _ _ _ _ _ _ _ e c.leads-own.ensures c.leads-name.ensures) c.name_anew.ensures
