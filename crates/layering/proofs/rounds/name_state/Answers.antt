-- `layering::rounds::name_state` meets its contract: the stores of each case leave one state more done.
use Rattle.table.specs.Tables.{unmarked}
use Rattle.layering.specs.Work.{numbers_of}
use Rattle.layering.proofs.Stepping.{advanced_found, advanced_new}
use Rattle.layering.proofs.rounds.name_state.Goals as goal

pub returns-in-Found-clause-advanced : goal.returns-in-Found-clause-advanced
returns-in-Found-clause-advanced c =
    let (_, e, f) = c.in-Found.ensures in
    let rooms = c.args.rooms.now in
    advanced_found (unmarked c.args.nexts.now) (numbers_of rooms) c.args.q c.requires.state.0 c.requires.done c.requires.room rooms.sized c.in-Found.r e c.args.layer f

pub returns-in-New-clause-advanced : goal.returns-in-New-clause-advanced
returns-in-New-clause-advanced c =
    let (e, _, f, g) = c.in-New.ensures in
    let rooms = c.args.rooms.now in
    advanced_new (unmarked c.args.nexts.now) (numbers_of rooms) c.args.q c.requires.state.0 c.requires.done c.requires.room rooms.sized c.requires.named c.in-New.bucket c.args.layer e f g
