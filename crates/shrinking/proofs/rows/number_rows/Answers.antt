-- `shrinking::rows::number_rows` meets its contract. The loop's invariant: the flagged classes below c are numbered and listed.
use Rattle.shrinking.proofs.Numbering.{numbers_none, rows_most, numbers_more}
use native.Mathlib.Omega.{arith}
use Rattle.shrinking.proofs.rows.number_rows.Goals as goal

pub loop-c-init : goal.loop-c-init
loop-c-init c = numbers_none _ _ _

pub number_class-count-requires-clause-within : goal.number_class-count-requires-clause-within
number_class-count-requires-clause-within c =
    let l = c.loop-c in
    (c.loop-c-test.true, rows_most c.args.flags.now l.c l.count l.numbers l.rows l.invariant)

pub loop-c-preserved : goal.loop-c-preserved
loop-c-preserved c =
    let l = c.loop-c in
    numbers_more c.args.flags.now l.c l.count l.numbers l.rows l.invariant (omega arith) (omega arith) _ _ _ c.number_class-count.ensures
