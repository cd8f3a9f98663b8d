-- `splitting::runs::run_takes` meets its contract.
use mathlib.Core.Path.{sym, subst, ◌∙◌}
use Rattle.std.proofs.Common.{rules}
use Rattle.refining.specs.Lists.{WellFormed}
use Rattle.splitting.proofs.Joining.{Joined, joined_lists, classed_joined, ran_joined}
use Rattle.splitting.proofs.runs.run_takes.Goals as goal

pub make_ready-requires-clause-classed : goal.make_ready-requires-clause-classed
make_ready-requires-clause-classed c =
    let n = c.args.nexts.now.sizes.states in
    let j : Joined n c.args.work.now c.split_at_mut-sizes.result.0.now c.split_at_mut-firsts.result.0.now c.split_at_mut-gones.result.0.now c.split_at_mut-renamed.result.0.now
    c.split_at_mut-leds.result.0.now c.split_at_mut-touched.result.0.now c.split_at_mut-classes.result.0.now c.split_at_mut-pendings.result.0.now c.split_at_mut-pendings.result.1.now
    = record { whole = cc; long = search rules }
    in
    classed_joined _ _ _ _ _ _ _ _ _ _ _ j _ c.requires.formed

pub make_takes-requires-clause-formed : goal.make_takes-requires-clause-formed
make_takes-requires-clause-formed c =
    let n = c.args.nexts.now.sizes.states in
    let j : Joined n c.args.work.now c.split_at_mut-sizes.result.0.now c.split_at_mut-firsts.result.0.now c.split_at_mut-gones.result.0.now c.split_at_mut-renamed.result.0.now
    c.split_at_mut-leds.result.0.now c.split_at_mut-touched.result.0.now c.split_at_mut-classes.result.0.now c.split_at_mut-pendings.result.0.now c.split_at_mut-pendings.result.1.now
    = record { whole = cc; long = search rules }
    in
    subst (WellFormed n c.args.nexts.now.sizes.signs) (joined_lists _ _ _ _ _ _ _ _ _ _ _ j ∙ sym c.make_ready.ensures.lists) c.requires.formed

pub returns : goal.returns
returns c =
    let n = c.args.nexts.now.sizes.states in
    let j : Joined n c.args.work.now c.split_at_mut-sizes.result.0.now c.split_at_mut-firsts.result.0.now c.split_at_mut-gones.result.0.now c.split_at_mut-renamed.result.0.now
    c.split_at_mut-leds.result.0.now c.split_at_mut-touched.result.0.now c.split_at_mut-classes.result.0.now c.split_at_mut-pendings.result.0.now c.split_at_mut-pendings.result.1.now
    = record { whole = cc; long = search rules }
    in
    ran_joined _ _ _ _ _ _ _ _ _ _ _ _ j _ _ _ _ c.make_ready.ensures.lists c.make_takes.ensures _ (search rules)
