-- The parts, one behind the other, are the file.
use Rattle.selftest.proofs.Filing.{table_stored}
use Rattle.selftest.proofs.files.write_table.Goals as goal

pub returns-clause-file : goal.returns-clause-file
returns-clause-file c =
    let a = c.args in
    table_stored a.signs a.marks.now a.nexts.now c.requires.sizes.0 a.out.now _ _ _ _ c.requires.room
    c.write_sizes.ensures
    c.write_marks.ensures
    c.put_pair.ensures
    c.write_nexts.ensures
