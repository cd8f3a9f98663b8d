-- `shrinking::shrinks::find_rows` meets its contract: a full splitting, then marking, flagging and numbering.
use Rattle.shrinking.proofs.Finding.{started_formed, classed, rows_found}
use native.Mathlib.Omega.{arith}
use Rattle.shrinking.proofs.shrinks.find_rows.Goals as goal

pub run_takes-takes-requires-clause-formed : goal.run_takes-takes-requires-clause-formed
run_takes-takes-requires-clause-formed c = started_formed c.args.table.now c.args.work.now c.start_in.new.work c.start_in.ensures

pub flag_classes-requires-clause-classed : goal.flag_classes-requires-clause-classed
flag_classes-requires-clause-classed c q l =
    let r = c.run_takes-takes in
    let k = classed c.args.table.now c.args.work.now c.start_in.new.work r.new.work r.result.takes r.result.entries c.start_in.ensures r.ensures _ c.split_at_mut-lists.ensures.back q (omega arith) in
    omega arith

pub returns : goal.returns
returns c =
    let r = c.run_takes-takes in
    let k = c.number_rows-count in
    rows_found c.args.table.now c.args.work.now c.start_in.new.work r.new.work r.result.takes r.result.entries c.start_in.ensures r.ensures c.requires
    c.split_at_mut-lists.result.1.now c.find_reached.new.work c.flag_classes.new.flags k.new.numbers k.new.rows k.result c.split_at_mut-lists.ensures.back
    (record { small = c.find_reached.ensures.small; marks = c.find_reached.ensures.reached }) c.flag_classes.ensures k.ensures (omega arith) (omega arith) (omega arith) (omega arith)
