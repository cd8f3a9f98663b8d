-- The fresh lists in the work slice.
use Rattle.std.specs.Prelude.{◌≡◌, List, ℕ, ◌*◌, ◌≤◌, ◌<◌, length}
use Rattle.counting.specs.Lists.{at}
use Rattle.refining.specs.Fresh.{fresh}
use Rattle.table.specs.Encoding.{machine_in}
use Rattle.splitting.specs.Work.{lists_in}

-- The lists in the work slice are fresh, whatever the start and the next states; all else is as it was.
pub record StartedIn (n k : ℕ) (marks before after : List ℕ) : Type 0 where
  pub long : length after ≡ length before
  pub lists : (start : ℕ) (nexts : List ℕ) → lists_in n after ≡ fresh (machine_in n k start marks nexts)
  pub below : (i : ℕ) → i < 6 * n → at after i ≡ at before i
  pub beyond : (i : ℕ) → 8 * n ≤ i → at after i ≡ at before i
