-- `telling::climbing::LastLayer::parted_in` meets its contract.
use Rattle.telling.proofs.Ancestors.{traced_low, traced_first, traced_more, traced_found, traced_less}
use Rattle.telling.proofs.climbing.LastLayer.parted_in.Goals as goal

pub later_birth-layer-requires : goal.later_birth-layer-requires
later_birth-layer-requires c = traced_low c.args.self.now c.args.p c.args.q c.loop-p.one c.loop-p.other c.loop-p.invariant c.requires.kept

pub returns-then-layer-eq0 : goal.returns-then-layer-eq0
returns-then-layer-eq0 c = traced_first c.args.self.now c.args.p c.args.q c.loop-p.one c.loop-p.other c.loop-p.invariant c.later_birth-layer.result c.later_birth-layer.ensures c.if-layer-eq0.true

pub name_before-one-requires : goal.name_before-one-requires
name_before-one-requires c = (traced_low c.args.self.now c.args.p c.args.q c.loop-p.one c.loop-p.other c.loop-p.invariant c.requires.kept).0

pub name_before-other-requires : goal.name_before-other-requires
name_before-other-requires c = (traced_low c.args.self.now c.args.p c.args.q c.loop-p.one c.loop-p.other c.loop-p.invariant c.requires.kept).1

pub returns-then-one-other : goal.returns-then-one-other
returns-then-one-other c =
    traced_found c.args.self.now c.args.p c.args.q c.loop-p.one c.loop-p.other c.loop-p.invariant c.later_birth-layer.result c.later_birth-layer.ensures
    c.if-layer-eq0.false c.name_before-one.result c.name_before-other.result c.name_before-one.ensures c.name_before-other.ensures c.if-one-other.true

pub loop-p-smaller : goal.loop-p-smaller
loop-p-smaller c =
    traced_less c.args.self.now c.args.p c.args.q c.loop-p.one c.loop-p.other c.loop-p.invariant c.later_birth-layer.result c.later_birth-layer.ensures
    c.if-layer-eq0.false c.name_before-one.result c.name_before-other.result c.name_before-one.ensures c.name_before-other.ensures c.requires.kept

pub loop-p-preserved : goal.loop-p-preserved
loop-p-preserved c =
    traced_more c.args.self.now c.args.p c.args.q c.loop-p.one c.loop-p.other c.loop-p.invariant c.later_birth-layer.result c.later_birth-layer.ensures
    c.if-layer-eq0.false c.name_before-one.result c.name_before-other.result c.name_before-one.ensures c.name_before-other.ensures c.if-one-other.false
