-- The pending list of a fresh start, state by state.
use Rattle.std.specs.Prelude.{◌≡◌, not, ◌&&◌, List, ℕ, ◌≤◌, ◌<◌, eqb, length}
use Rattle.counting.specs.Lists.{at}
use Rattle.counting.specs.Least.{pick}
use Rattle.counting.specs.Counts.{any}
use Rattle.refining.specs.Fresh.{fresh}
use Rattle.table.specs.Encoding.{machine_in}

-- The pending of fresh lists, so far: k for the first state that has the mark due, where it is one of the first x, else 0; the rest as it was.
pub record Filled (k due x : ℕ) (marks before after : List ℕ) : Type 0 where
  pub long : length after ≡ length before
  pub pendings : (q : ℕ) → q < x → at after q ≡ pick (eqb (at marks q) due && not (any q (λ y. eqb (at marks y) due))) k 0
  pub beyond : (i : ℕ) → x ≤ i → at after i ≡ at before i

-- The first n numbers are the pending of the fresh lists, whatever the start and the next states; all else is as it was.
pub record FreshFilled (n k : ℕ) (marks before after : List ℕ) : Type 0 where
  pub long : length after ≡ length before
  pub pendings : (start : ℕ) (nexts : List ℕ) (q : ℕ) → q < n → at after q ≡ at (fresh (machine_in n k start marks nexts)).pending q
  pub beyond : (i : ℕ) → n ≤ i → at after i ≡ at before i
