-- `telling::writing::write_word` meets its contract.
use native.Mathlib.Omega.{arith}
use Rattle.telling.proofs.Spellings.{spelling_none, sign_in, spelling_more, spelling_done}
use Rattle.telling.proofs.writing.write_word.Goals as goal

pub loop-i-init : goal.loop-i-init
loop-i-init c = spelling_none c.args.nexts.now c.args.last.now _ _ _ _ c.requires.states.0 c.requires.states.1 c.requires.parted

pub overflow_cast-word : goal.overflow_cast-word
overflow_cast-word c =
    let h = c.args.nexts.now.held in
    omega (arith, sign_in c.args.nexts.now c.args.last.now _ _ _ c.requires.states.0 c.requires.states.1 c.requires.parted _ _ _ _ _ _ c.loop-i.invariant c.loop-i-test.true c.requires.room c.parting_sign-a.ensures, h.range.signs_most)

pub next_of-one-requires : goal.next_of-one-requires
next_of-one-requires c = (
  c.loop-i.invariant.inside.0,
  sign_in c.args.nexts.now c.args.last.now _ _ _ c.requires.states.0 c.requires.states.1 c.requires.parted _ _ _ _ _ _ c.loop-i.invariant c.loop-i-test.true c.requires.room c.parting_sign-a.ensures,
)

pub next_of-other-requires : goal.next_of-other-requires
next_of-other-requires c = (
  c.loop-i.invariant.inside.1,
  sign_in c.args.nexts.now c.args.last.now _ _ _ c.requires.states.0 c.requires.states.1 c.requires.parted _ _ _ _ _ _ c.loop-i.invariant c.loop-i-test.true c.requires.room c.parting_sign-a.ensures,
)

pub loop-i-preserved : goal.loop-i-preserved
loop-i-preserved c =
    spelling_more c.args.nexts.now c.args.last.now _ _ _ c.requires.states.0 c.requires.states.1 c.requires.parted _ _ _ _ _ _ c.loop-i.invariant c.loop-i-test.true c.requires.room c.parting_sign-a.ensures _ _
    c.next_of-one.ensures.value c.next_of-other.ensures.value

pub returns : goal.returns
returns c =
    spelling_done c.args.nexts.now c.args.last.now _ _ _ c.requires.states.0 c.requires.states.1 c.requires.parted _ _ _ _ _ c.requires.room (omega arith) c.loop-i.invariant
