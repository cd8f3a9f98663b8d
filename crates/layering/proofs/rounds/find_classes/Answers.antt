-- `layering::rounds::find_classes` meets its contract: the rounds from the first names are those of the marks.
use mathlib.Core.List.{List}
use Prim.Native.Nat.{ℕ}
use Rattle.std.specs.Borrow.{MutBor}
use Rattle.std.proofs.Common.{rules}
use Rattle.layering.proofs.Joining.{Parts, parts_begin, parts_rest}
use Rattle.layering.proofs.rounds.find_classes.Goals as goal

-- the parts, as the splits give them
abbrev Split : ℕ → List ℕ → (names laters links births parents heads : MutBor (List ℕ) × MutBor (List ℕ)) → Type 0
Split n work names laters links births parents heads = Parts n work names.0.now laters.0.now links.0.now births.0.now parents.0.now heads.0.now heads.1.now

pub settle-requires-clause-begun : goal.settle-requires-clause-begun
settle-requires-clause-begun c =
    let parts : Split c.args.table.now.nexts.sizes.states c.first_names.new.work c.split_at_mut-names.result c.split_at_mut-laters.result c.split_at_mut-links.result c.split_at_mut-births.result c.split_at_mut-parents.result c.split_at_mut-heads.result = search rules in
    parts_begin c.args.table.now c.first_names.ensures parts

pub returns : goal.returns
returns c =
    let parts : Split c.args.table.now.nexts.sizes.states c.first_names.new.work c.split_at_mut-names.result c.split_at_mut-laters.result c.split_at_mut-links.result c.split_at_mut-births.result c.split_at_mut-parents.result c.split_at_mut-heads.result = search rules in
    parts_rest c.args.table.now c.first_names.ensures parts (search rules) (search rules) c.settle.ensures
