-- `table::reading::read_sizes` meets its contract: each `return` is one of the ways out of field 1.
use mathlib.Core.Path.{◌≡◌, sym, ap₂, ◌∙◌}
use mathlib.Core.Bool.{false}
use native.Mathlib.Omega.{arith}
use Rattle.std.proofs.lemmas.Result.{err_from_is_err_and}
use Rattle.table.specs.Judging.{outside}
use Rattle.table.proofs.Ways.{sizes_cut, sizes_range, sizes_start, sizes_good}
use Rattle.table.proofs.Openings.{opened}
use Rattle.table.proofs.reading.read_sizes.Goals as goal

pub returns-in_err-read_field : goal.returns-in_err-read_field
returns-in_err-read_field c =
    let p = err_from_is_err_and c.from_residual.result c.from_residual.ensures.1 in
    rw (p.1, p.2) (sym (sizes_cut c.args.file.now (sym c.in_err-read_field.ensures)))

pub pair_at-states-requires : goal.pair_at-states-requires
pair_at-states-requires c = omega (arith, (opened c.in_ok-read_field.field-0 c.in_ok-read_field.ensures).stands.bodied)

pub pair_at-signs-requires : goal.pair_at-signs-requires
pair_at-signs-requires c = omega (arith, (opened c.in_ok-read_field.field-0 c.in_ok-read_field.ensures).stands.bodied)

pub pair_at-start-requires : goal.pair_at-start-requires
pair_at-start-requires c = omega (arith, (opened c.in_ok-read_field.field-0 c.in_ok-read_field.ensures).stands.bodied)

-- in each of the three: that field 1 stands whole, and what the test of the ranges was of
pub returns-then-outside : goal.returns-then-outside
returns-then-outside c =
    let w = (opened c.in_ok-read_field.field-0 c.in_ok-read_field.ensures).stands in
    let t = ap₂ outside (sym c.pair_at-states.ensures.value) (sym c.pair_at-signs.ensures.value) ∙ sym c.is_outside-outside.ensures in
    sym (sizes_range c.args.file.now w (t ∙ c.if-outside.true))

pub returns-then-states-start : goal.returns-then-states-start
returns-then-states-start c =
    let w = (opened c.in_ok-read_field.field-0 c.in_ok-read_field.ensures).stands in
    let t = ap₂ outside (sym c.pair_at-states.ensures.value) (sym c.pair_at-signs.ensures.value) ∙ sym c.is_outside-outside.ensures in
    let o : c.is_outside-outside.result ≡ false = cc in
    sym (sizes_start c.args.file.now w (t ∙ o) (omega (arith, c.pair_at-states.ensures.value, c.pair_at-start.ensures.value)))

pub returns : goal.returns
returns c =
    let w = (opened c.in_ok-read_field.field-0 c.in_ok-read_field.ensures).stands in
    let t = ap₂ outside (sym c.pair_at-states.ensures.value) (sym c.pair_at-signs.ensures.value) ∙ sym c.is_outside-outside.ensures in
    let o : c.is_outside-outside.result ≡ false = cc in
    rw (c.pair_at-states.ensures.value, c.pair_at-signs.ensures.value, c.pair_at-start.ensures.value)
    (sym (sizes_good c.args.file.now w (t ∙ o) (omega (arith, c.pair_at-states.ensures.value, c.pair_at-start.ensures.value))))
