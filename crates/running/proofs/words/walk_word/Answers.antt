-- `running::words::walk_word` meets its contract.
use mathlib.Core.Path.{◌≡◌, refl, sym, ap, ◌∙◌}
use native.Mathlib.Omega.{arith}
use borrow.Author.Count.{below_none, below_more}
use borrow.Author.Tests.{le-leb, lt-leb}
use lib.ListN.{length}
use Rattle.std.specs.Prelude.{Ok}
use Rattle.counting.specs.Lists.{at}
use Rattle.counting.proofs.Leasts.{least_first, least_none}
use Rattle.automaton.specs.Words.{steps}
use Rattle.table.specs.Tables.{unmarked}
use Rattle.running.specs.Running.{bad_sign}
use Rattle.running.proofs.Walking.{steps_more, steps_whole, walk_strange, walk_stands}
use Rattle.running.proofs.words.walk_word.Goals as goal

pub loop-i-init : goal.loop-i-init
unfolding steps
loop-i-init c = record { known = below_none _; led = refl; inside = c.args.nexts.now.held.start-in }

pub returns-then-nexts-a : goal.returns-then-nexts-a
unfolding bad_sign
returns-then-nexts-a c =
    let l = c.loop-i in
    let signs = c.args.nexts.now.sizes.signs in
    let word = c.args.word.now in
    let t = c.loop-i-test.true in
    sym (walk_strange (unmarked c.args.nexts.now) word l.i (least_first _ _ l.i t (le-leb signs (at word l.i) (omega arith)) l.invariant.known) t)

pub loop-i-preserved : goal.loop-i-preserved
loop-i-preserved c =
    let l = c.loop-i in
    let t = c.args.nexts.now in
    let word = c.args.word.now in
    record {
      known = below_more _ _ l.invariant.known (lt-leb t.sizes.signs (at word l.i) (omega arith));
      led = steps_more (unmarked t) t.sizes.start word l.i l.q c.from-a.result c.next_of-q.result c.loop-i-test.true l.invariant.led c.from-a.ensures c.next_of-q.ensures.value;
      inside = c.next_of-q.ensures.inside;
    }

pub returns : goal.returns
unfolding bad_sign
returns c =
    let l = c.loop-i in
    let t = c.args.nexts.now in
    let word = c.args.word.now in
    let e : l.i ≡ length word = omega arith in
    ap Ok (l.invariant.led ∙ steps_whole (unmarked t) t.sizes.start word l.i (omega arith))
    ∙ sym (walk_stands (unmarked t) word (least_none _ _ (rw e at l.invariant.known)))
