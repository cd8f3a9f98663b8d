-- `splitting::starts::start_in` meets its contract: two parts of the work slice are lent, one after the other.
use lib.ListN.{length}
use Rattle.splitting.proofs.StartPlaces.{started_in}
use Rattle.splitting.proofs.starts.start_in.Goals as goal

pub returns : goal.returns
returns c =
    let a = c.args in
    started_in (length a.marks.now.bytes.now) a.signs a.marks.now.bytes.now a.work.now c.mark_names.new.names c.fill_fresh.new.pending c.requires.room c.mark_names.ensures c.fill_fresh.ensures
