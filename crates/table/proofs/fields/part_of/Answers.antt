-- `table::fields::part_of` meets its contract: by the file's sizes where it is accepted, nowhere where it is refused.
use mathlib.Core.Path.{sym, ap₂, ◌∙◌}
use Prim.Native.Nat.{ℕ}
use Rattle.table.specs.Bodies.{body_in}
use Rattle.table.proofs.Openings.{good}
use Rattle.table.proofs.Places.{empty_part, body_of_given, body_of_refused}
use Rattle.table.proofs.fields.part_of.Goals as goal

pub part_in-requires : goal.part_in-requires
part_in-requires c = (good c.in-Ok.sizes c.in-Ok.ensures).range

pub returns-in-Ok : goal.returns-in-Ok
returns-in-Ok c =
    let g = good c.in-Ok.sizes c.in-Ok.ensures in
    c.part_in.ensures
    ∙ ap₂ (λ (n k : ℕ). body_in n k c.args.number) g.states g.signs
    ∙ sym (body_of_given _ _ (sym c.in-Ok.ensures))

pub returns-in-Err : goal.returns-in-Err
returns-in-Err c = empty_part _ c.default.ensures ∙ sym (body_of_refused _ _ (sym c.in-Err.ensures))
