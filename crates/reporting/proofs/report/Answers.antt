-- `reporting::report` meets its contract: each `?` and the end is one of the ways out of the report, and in memory that is long enough all but two are shut.
use Rattle.std.proofs.lemmas.Result.{err_from_is_err_and}
use mathlib.Core.Path.{sym}
use native.Mathlib.Omega.{arith}
use Rattle.table.proofs.Openings.{good}
use Rattle.reporting.proofs.Sequel.{out_judged, out_layers, out_start, out_run, out_shrink, out_made}
use Rattle.reporting.proofs.report.Goals as goal

pub returns-in_err-sizes : goal.returns-in_err-sizes
returns-in_err-sizes c =
    let a = c.args in
    let e = err_from_is_err_and c.from_residual.result c.from_residual.ensures.1 in
    let o = out_judged a.file.now a.work.now a.classes.now a.pending.now a.out.now c.in_err-sizes.field-0.0 (sym c.in_err-sizes.ensures) in
    rw (e.1, e.2) (record { leaves = o.0; roomy = o.1 })

pub returns-in_err-counts : goal.returns-in_err-counts
returns-in_err-counts c =
    let a = c.args in
    let e = err_from_is_err_and c.from_residual-in_err-counts.result c.from_residual-in_err-counts.ensures.1 in
    let o = out_layers a.file.now a.work.now a.classes.now a.pending.now a.out.now (good c.in_ok-sizes.sizes c.in_ok-sizes.ensures) c.in_err-counts.field-0.0 c.in_err-counts.ensures in
    rw (e.1, e.2) (record { leaves = o.0; roomy = o.1 })

pub returns-in_err-fresh : goal.returns-in_err-fresh
returns-in_err-fresh c =
    let a = c.args in
    let e = err_from_is_err_and c.from_residual-in_err-fresh.result c.from_residual-in_err-fresh.ensures.1 in
    let o = out_start a.file.now a.work.now a.classes.now a.pending.now a.out.now (good c.in_ok-sizes.sizes c.in_ok-sizes.ensures) c.in_ok-counts.counts c.in_ok-counts.ensures
    (omega arith) (omega arith) c.in_err-fresh.field-0.0 c.in_err-fresh.ensures in
    rw (e.1, e.2) (record { leaves = o.0; roomy = o.1 })

pub returns-in_err-tally : goal.returns-in_err-tally
returns-in_err-tally c =
    let a = c.args in
    let e = err_from_is_err_and c.from_residual-in_err-tally.result c.from_residual-in_err-tally.ensures.1 in
    let o = out_run a.file.now a.work.now a.classes.now a.pending.now a.out.now (good c.in_ok-sizes.sizes c.in_ok-sizes.ensures) c.in_ok-counts.counts c.in_ok-counts.ensures
    (omega arith) (omega arith) c.in_ok-fresh.ensures c.in_err-tally.field-0.0 c.in_err-tally.ensures in
    rw (e.1, e.2) (record { leaves = o.0; roomy = o.1 })

pub returns-in_err-size : goal.returns-in_err-size
returns-in_err-size c =
    let a = c.args in
    let e = err_from_is_err_and c.from_residual-in_err-size.result c.from_residual-in_err-size.ensures.1 in
    let o = out_shrink a.file.now a.work.now a.classes.now a.pending.now a.out.now (good c.in_ok-sizes.sizes c.in_ok-sizes.ensures) c.in_ok-counts.counts c.in_ok-counts.ensures
    (omega arith) (omega arith) c.in_ok-fresh.ensures c.in_ok-tally.tally c.in_ok-tally.ensures (omega arith) c.in_err-size.field-0.0 c.in_err-size.ensures in
    rw (e.1, e.2) (record { leaves = o.0; roomy = o.1 })

pub returns : goal.returns
returns c =
    let a = c.args in
    let o = out_made a.file.now a.work.now a.classes.now a.pending.now a.out.now (good c.in_ok-sizes.sizes c.in_ok-sizes.ensures) c.in_ok-counts.counts c.in_ok-counts.ensures
    (omega arith) (omega arith) c.in_ok-fresh.ensures c.in_ok-tally.tally c.in_ok-tally.ensures (omega arith) c.in_ok-size.size c.in_ok-size.ensures in
    record { leaves = o.0; roomy = o.1 }
