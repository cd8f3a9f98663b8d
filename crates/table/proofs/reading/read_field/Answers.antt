-- `table::reading::read_field` meets its contract: each `return` is one of the ways out of a due field.
use mathlib.Core.Path.{sym, ◌∙◌}
use Rattle.table.proofs.Dues.{no_head, wrong_tag, wrong_size, no_body, whole}
use Rattle.table.proofs.reading.read_field.Goals as goal

pub returns-then-file-body : goal.returns-then-file-body
returns-then-file-body c =
    let a = c.args in
    sym (no_head a.file.now a.at a.tag a.size c.if-file-body.true)

pub returns-then-file-at : goal.returns-then-file-at
returns-then-file-at c =
    let a = c.args in
    sym (wrong_tag a.file.now a.at a.tag a.size c.if-file-body.false c.if-file-at.true)

pub returns-then-found-size : goal.returns-then-found-size
returns-then-found-size c =
    let a = c.args in
    sym (wrong_size a.file.now a.at a.tag a.size c.if-file-body.false c.if-file-at.false (λ e. c.if-found-size.true (c.pair_at-found.ensures.value ∙ e)))

pub returns-then-file-end : goal.returns-then-file-end
returns-then-file-end c =
    let a = c.args in
    sym (no_body a.file.now a.at a.tag a.size c.if-file-body.false c.if-file-at.false (sym c.pair_at-found.ensures.value ∙ c.if-found-size.false) c.if-file-end.true)

pub returns : goal.returns
returns c =
    let a = c.args in
    sym (whole a.file.now a.at a.tag a.size (record { headed = c.if-file-body.false; tagged = c.if-file-at.false; sized = sym c.pair_at-found.ensures.value ∙ c.if-found-size.false; bodied = c.if-file-end.false }))
