-- `table::fields::table_in` meets its contract: the parts that are handed out hold what the judging found.
use mathlib.Core.Path.{sym, ap, subst, ◌∙◌}
use lib.ListN.{length}
use Rattle.std.proofs.lemmas.Result.{err_from_is_err_and}
use Rattle.table.specs.Encoding.{Held, Marked}
use Rattle.table.proofs.Openings.{good}
use Rattle.table.proofs.Handing.{marks_handed, nexts_handed, marked, held, marks_long}
use Rattle.table.proofs.fields.table_in.Goals as goal

pub returns-in_err-sizes : goal.returns-in_err-sizes
returns-in_err-sizes c =
    let p = err_from_is_err_and c.from_residual.result c.from_residual.ensures.1 in
    rw (p.1, p.2) (sym c.in_err-sizes.ensures)

pub field_of-requires : goal.field_of-requires
field_of-requires c = good c.in_ok-sizes.sizes c.in_ok-sizes.ensures

pub field_of-requires-2 : goal.field_of-requires-2
field_of-requires-2 c = good c.in_ok-sizes.sizes c.in_ok-sizes.ensures

pub invariant_of-marks : goal.invariant_of-marks
invariant_of-marks c =
    let z = c.in_ok-sizes.sizes in
    record { marked = subst Marked (sym (marks_handed z c.field_of.ensures)) (marked _ z (good z c.in_ok-sizes.ensures)) }

pub invariant_of-nexts : goal.invariant_of-nexts
invariant_of-nexts c =
    let z = c.in_ok-sizes.sizes in
    record { held = subst (Held z.states z.signs z.start) (sym (nexts_handed z c.field_of-2.ensures)) (held _ z (good z c.in_ok-sizes.ensures)) }

pub invariant_of-result : goal.invariant_of-result
invariant_of-result c =
    let z = c.in_ok-sizes.sizes in
    record { sized = ap length (marks_handed z c.field_of.ensures) ∙ marks_long _ z (good z c.in_ok-sizes.ensures) }

pub returns : goal.returns
returns c =
    let z = c.in_ok-sizes.sizes in
    record { good = good z c.in_ok-sizes.ensures; marks = marks_handed z c.field_of.ensures; nexts = nexts_handed z c.field_of-2.ensures }
