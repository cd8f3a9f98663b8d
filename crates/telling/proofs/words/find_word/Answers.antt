-- `telling::words::find_word` meets its contract: each `return` is one of the ways out, over the last layer as the rounds left it.
use mathlib.Core.Path.{refl, sym, ap, ◌∙◌}
use mathlib.Core.List.{List, [], ◌∷◌}
use Prim.Native.Nat.{ℕ, ◌*◌}
use Rattle.lending.specs.Memory.{cleared}
use Rattle.table.specs.Answers.{gives}
use Rattle.table.specs.Leaving.{left}
use Rattle.table.specs.Tables.{machine}
use Rattle.table.proofs.Handing.{held_lawful}
use Rattle.telling.proofs.Ways.{settled_names, settled_keeps, spoken_alike, spoken_short, spoken_apart}
use Rattle.telling.proofs.words.find_word.Goals as goal

pub returns-then-number_at-clause-said : goal.returns-then-number_at-clause-said
returns-then-number_at-clause-said c =
    let a = c.args in
    let t = a.table.now in
    let f = c.find_classes in
    spoken_alike (machine t) (held_lawful t.marks.bytes.now t.nexts.held) a.p a.q c.requires.states.0 c.requires.states.1 (cleared (16 * t.nexts.sizes.states) a.work.now) a.word.now _
    (settled_names (machine t) a.work.now f.new.work f.result f.ensures) (sym c.number_at.ensures.value ∙ c.if-number_at.true ∙ c.number_at-2.ensures.value)

pub parted_in-depth-requires-clause-kept : goal.parted_in-depth-requires-clause-kept
parted_in-depth-requires-clause-kept c =
    let t = c.args.table.now in
    let f = c.find_classes in
    (machine t, settled_keeps (machine t) c.args.work.now f.new.work f.result f.ensures c.requires.room _ refl refl refl)

pub returns-then-word-depth-clause-said : goal.returns-then-word-depth-clause-said
returns-then-word-depth-clause-said c =
    let a = c.args in
    let t = a.table.now in
    let f = c.find_classes in
    let d = c.parted_in-depth.ensures (machine t) (settled_keeps (machine t) a.work.now f.new.work f.result f.ensures c.requires.room _ refl refl refl) in
    spoken_short (machine t) (held_lawful t.marks.bytes.now t.nexts.held) a.p a.q c.requires.states.0 c.requires.states.1 (cleared (16 * t.nexts.sizes.states) a.work.now) a.word.now c.parted_in-depth.result d.0 d.1
    c.if-word-depth.true

pub write_word-requires-clause-parted : goal.write_word-requires-clause-parted
write_word-requires-clause-parted c =
    let t = c.args.table.now in
    let f = c.find_classes in
    let k = settled_keeps (machine t) c.args.work.now f.new.work f.result f.ensures c.requires.room _ refl refl refl in
    let d = c.parted_in-depth.ensures (machine t) k in
    (t.marks.bytes.now, k, d.0, d.1)

pub returns-clause-said : goal.returns-clause-said
returns-clause-said c =
    let a = c.args in
    let t = a.table.now in
    let f = c.find_classes in
    let work = cleared (16 * t.nexts.sizes.states) a.work.now in
    let k = settled_keeps (machine t) a.work.now f.new.work f.result f.ensures c.requires.room _ refl refl refl in
    let d = c.parted_in-depth.ensures (machine t) k in
    let r = c.parted_in-depth.result in
    ap (λ (w : List ℕ). left (gives (r ∷ [])) (work ∷ w ∷ [])) (c.write_word.ensures t.marks.bytes.now k d.0)
    ∙ spoken_apart (machine t) (held_lawful t.marks.bytes.now t.nexts.held) a.p a.q c.requires.states.0 c.requires.states.1 work a.word.now r d.0 d.1 c.if-word-depth.false
