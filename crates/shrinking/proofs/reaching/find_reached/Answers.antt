-- `shrinking::reaching::find_reached` meets its contract: what is marked in the front, and all beyond as it was.
use Rattle.shrinking.proofs.Sweeping.{found_front}
use native.Mathlib.Omega.{arith}
use lib.ListN.{length-take}
use Rattle.shrinking.proofs.reaching.find_reached.Goals as goal

pub returns : goal.returns
returns c =
    found_front _ _ c.mark_reached.new.reached c.requires
    (omega (arith, length-take c.args.nexts.now.sizes.states c.args.work.now)) c.mark_reached.ensures
