-- `table::fields::field_of` meets its contract: the part that `part_in` names, which lies within a right file.
use Rattle.table.proofs.Places.{body_in_within}
use Rattle.table.proofs.fields.field_of.Goals as goal

pub slice_of-requires : goal.slice_of-requires
slice_of-requires c = rw c.part_in-part.ensures (body_in_within _ _ c.requires)
