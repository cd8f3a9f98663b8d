-- `splitting::starts::fill_fresh` meets its contract: the mark due is the fresh lists'.
use mathlib.Core.Path.{sym, ◌∙◌}
use native.Mathlib.Omega.{arith}
use lib.Dec.{eqb}
use lib.ListN.{length}
use Rattle.counting.specs.Lists.{at}
use Rattle.counting.proofs.Tallies.{count_most}
use Rattle.splitting.proofs.FreshPendings.{filled_fresh, cleared_fresh}
use Rattle.splitting.proofs.starts.fill_fresh.Goals as goal

pub due_mark-requires : goal.due_mark-requires
due_mark-requires c =
    let marks = c.args.marks.now.bytes.now in
    omega (arith, c.count_accepting.ensures, count_most (length marks) (λ x. eqb (at marks x) 1))

pub returns-in-Some : goal.returns-in-Some
returns-in-Some c = filled_fresh _ _ _ _ _ _ c.args.marks.now.marked.small c.count_accepting.ensures _ (sym c.in-Some.is ∙ c.due_mark.ensures) c.fill_pending.ensures

pub returns-in-None : goal.returns-in-None
returns-in-None c = cleared_fresh _ _ _ _ _ _ c.args.marks.now.marked.small c.count_accepting.ensures (sym c.in-None.is ∙ c.due_mark.ensures) c.requires.room c.clear.ensures
