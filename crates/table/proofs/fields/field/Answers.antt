-- `table::fields::field` meets its contract: the part that `part_of` names, which lies within the file.
use Rattle.table.proofs.Places.{body_within}
use Rattle.table.proofs.fields.field.Goals as goal

pub slice_of-requires : goal.slice_of-requires
slice_of-requires c = rw c.part_of-part.ensures (body_within _ _)
