-- `layering::first::mark_names` meets its contract.
use mathlib.Core.Path.{sym, ◌∙◌}
use native.Mathlib.Omega.{arith}
use Rattle.layering.proofs.Beginning.{Step, step_zero, step_one, first_named_more}
use Rattle.layering.proofs.first.mark_names.Goals as goal
use Rattle.layering.proofs.first.mark_names.Goals.{then-mark_of-eq0, else-mark_of-eq0}

pub overflow_cast-names : goal.overflow_cast-names
overflow_cast-names c =
    let l = c.loop-q in
    let marks = c.args.marks.now in
    let i = l.invariant in
    let b = c.if-mark_of-eq0 in
    let s : Step l.q marks.bytes.now b.name b.zero b.one =
    elim b.branch [
      | then-mark_of-eq0 w ↦ step_zero l.zero l.one i.zero i.one w.name-is (sym c.mark_of.ensures ∙ w.if-mark_of-eq0.true) w.unwrap_or-first.ensures w.zero-is w.one-is
      | else-mark_of-eq0 w ↦
          step_one l.zero l.one i.zero i.one w.name-is (omega (arith, c.mark_of.ensures, w.if-mark_of-eq0.false, marks.marked.small l.q c.loop-q-test.true)) w.unwrap_or-first-else-mark_of-eq0.ensures w.zero-is w.one-is
    ]
    in
    omega (arith, s.low, marks.marked.few)

pub loop-q-preserved : goal.loop-q-preserved
loop-q-preserved c =
    let l = c.loop-q in
    let marks = c.args.marks.now in
    let i = l.invariant in
    let b = c.if-mark_of-eq0 in
    let s : Step l.q marks.bytes.now b.name b.zero b.one =
    elim b.branch [
      | then-mark_of-eq0 w ↦ step_zero l.zero l.one i.zero i.one w.name-is (sym c.mark_of.ensures ∙ w.if-mark_of-eq0.true) w.unwrap_or-first.ensures w.zero-is w.one-is
      | else-mark_of-eq0 w ↦
          step_one l.zero l.one i.zero i.one w.name-is (omega (arith, c.mark_of.ensures, w.if-mark_of-eq0.false, marks.marked.small l.q c.loop-q-test.true)) w.unwrap_or-first-else-mark_of-eq0.ensures w.zero-is w.one-is
    ]
    in
    record {
      named = first_named_more l.q b.name marks.bytes.now c.args.names.now l.names (omega (arith, i.named.long)) s.named i.named;
      zero = s.first_zero;
      one = s.first_one;
    }
