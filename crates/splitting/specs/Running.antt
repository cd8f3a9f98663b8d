-- Takes one after the other on lists in the work slice, and a list put there.
use Rattle.std.specs.Prelude.{◌≡◌, List, ℕ, ◌+◌, ◌*◌, ◌≤◌, ◌<◌, length}
use Rattle.counting.specs.Lists.{at}
use Rattle.automaton.specs.Machine.{Machine}
use Rattle.refining.specs.Run.{run_lists, run_takes, run_entries}
use Rattle.splitting.specs.declared.rooms.Rooms.{Rooms}
use Rattle.splitting.specs.Work.{lists_in, lists_of, Same, Sized}

-- What some takes leave in rooms: the lists of the run, its counts, and the lists as long as they were.
pub record Ran (M : Machine) (budget : ℕ) (before after : Rooms) (takes looked : ℕ) : Type 0 where
  pub same : Same before after
  pub sized : Sized M.size after
  pub lists : lists_of after ≡ run_lists M budget (lists_of before)
  pub counts : (takes ≡ run_takes M budget (lists_of before)) × (looked ≡ run_entries M budget (lists_of before))

-- What some takes leave: the lists of the run, its counts, all beyond as it was.
pub record RanIn (M : Machine) (budget : ℕ) (before after : List ℕ) (takes looked : ℕ) : Type 0 where
  pub long : length after ≡ length before
  pub lists : lists_in M.size after ≡ run_lists M budget (lists_in M.size before)
  pub counts : (takes ≡ run_takes M budget (lists_in M.size before)) × (looked ≡ run_entries M budget (lists_in M.size before))
  pub beyond : (i : ℕ) → 8 * M.size ≤ i → at after i ≡ at before i

-- The first x numbers of a list put in from a place on; all else is as it was.
pub record PutIn (list : List ℕ) (place x : ℕ) (before after : List ℕ) : Type 0 where
  pub long : length after ≡ length before
  pub put : (j : ℕ) → j < x → at after (place + j) ≡ at list j
  pub below : (i : ℕ) → i < place → at after i ≡ at before i
  pub beyond : (i : ℕ) → place + x ≤ i → at after i ≡ at before i
