-- `telling::climbing::LastLayer::name_in` meets its contract.
use Prim.Native.Nat.{◌<◌}
use mathlib.Core.Path.{sym, subst}
use Rattle.telling.specs.Kept.{born}
use Rattle.telling.proofs.Ancestors.{Climbed, climbed_low, climbed_less, climbed_more, climbed_done}
use native.Mathlib.Omega.{arith}
use Rattle.telling.proofs.climbing.LastLayer.name_in.Goals as goal

pub number_at-requires : goal.number_at-requires
number_at-requires c = omega (arith, climbed_low c.args.self.now c.args.x c.args.layer c.loop-name.name c.loop-name.invariant c.requires.kept, c.args.self.now.sized)

pub loop-name-smaller : goal.loop-name-smaller
loop-name-smaller c =
    let late : c.args.layer < born c.args.self.now c.loop-name.name = omega (arith, c.loop-name-test.true, c.number_at.ensures.value) in
    omega (arith, climbed_less c.args.self.now c.args.x c.args.layer c.loop-name.name c.loop-name.invariant c.requires.kept late, c.number_at-name-in-loop-name.ensures.value)

pub loop-name-preserved : goal.loop-name-preserved
loop-name-preserved c =
    let late : c.args.layer < born c.args.self.now c.loop-name.name = omega (arith, c.loop-name-test.true, c.number_at.ensures.value) in
    subst (Climbed c.args.self.now c.args.x c.args.layer) (sym c.number_at-name-in-loop-name.ensures.value)
    (climbed_more c.args.self.now c.args.x c.args.layer c.loop-name.name c.loop-name.invariant late)

pub returns : goal.returns
returns c =
    climbed_done c.args.self.now c.args.x c.args.layer c.loop-name.name c.loop-name.invariant (omega (arith, c.number_at.ensures.value, c.loop-name-test.false))
