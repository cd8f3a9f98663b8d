-- `shrinking::writing::write_rows` meets its contract. The loop's invariant: the next states of the first i rows are written.
use Prim.Native.Nat.{ℕ, ◌+◌}
use mathlib.Core.Path.{◌≡◌, ap, ◌∙◌}
use lib.ListN.{length}
use lib.Seq.{sets}
use Rattle.table.specs.Tables.{unmarked}
use Rattle.shrinking.specs.Written.{rows_bytes}
use Rattle.shrinking.proofs.Stores.{rows_none, rows_more, rows-length, field_stored}
use native.Mathlib.Omega.{arith}
use Rattle.shrinking.proofs.writing.write_rows.Goals as goal

pub loop-i-init : goal.loop-i-init
loop-i-init c = rows_none (unmarked c.args.nexts.now) c.args.lists.now _ _

pub loop-i-preserved : goal.loop-i-preserved
loop-i-preserved c =
    let a = c.args in
    let l = c.loop-i in
    c.write_row.ensures ∙ rows_more (unmarked a.nexts.now) a.lists.now c.put_pair.new.out (12 + length a.lists.now.rows.now + 3) l.i l.out l.invariant

pub returns : goal.returns
returns c =
    let l = c.loop-i in
    let a = c.args in
    let M = unmarked a.nexts.now in
    let o = c.put_pair.new.out in
    let count = length a.lists.now.rows.now in
    let e : l.i ≡ count = omega arith in
    field_stored a.out.now (rows_bytes M a.lists.now count) (12 + count) _ o l.out (rows-length M a.lists.now a.out.now count) c.put_pair.ensures
    (l.invariant ∙ ap (λ (i : ℕ). sets o (12 + count + 3) (rows_bytes M a.lists.now i)) e)
