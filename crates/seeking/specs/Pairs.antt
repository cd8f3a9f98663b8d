-- The search over pairs of states, in a list of numbers. Its first 5 × n numbers hold, n each: the links; for each pair in the order of finding its left state, its right state, the pair it comes
-- from, and the sign.
use Rattle.std.specs.Prelude.{◌≡◌, ◌≢◌, List, ℕ, suc, ◌+◌, ◌*◌, ◌≤◌, ◌<◌, length}
use Rattle.counting.specs.Lists.{at}
use Rattle.automaton.specs.Machine.{Machine}
use Rattle.automaton.specs.Words.{steps, ends}
use Rattle.seeking.specs.Order.{Leads}
use Rattle.seeking.specs.Search.{word_of, Earlier, Search}
use Rattle.seeking.specs.Links.{Low, Constant, roots}

abbrev pub left_of : ℕ → List ℕ → ℕ → ℕ
left_of n work i = at work (1 * n + i)

abbrev pub right_of : ℕ → List ℕ → ℕ → ℕ
right_of n work i = at work (2 * n + i)

abbrev pub from_of : ℕ → List ℕ → ℕ → ℕ
from_of n work i = at work (3 * n + i)

abbrev pub by_of : ℕ → List ℕ → ℕ → ℕ
by_of n work i = at work (4 * n + i)

-- a sign leads a pair of states, one of each machine, to the pair of their next states
abbrev pub pair_step : Machine → Machine → ℕ × ℕ → ℕ → ℕ × ℕ
pair_step L R x a = (L.next x.0 a, R.next x.1 a)

-- a pair that is sought: the kinds differ
abbrev pub Parts : Machine → Machine → ℕ × ℕ → Type 0
Parts L R x = L.kind x.0 ≢ R.kind x.1

-- Two machines over the same signs, their states numbered beside one another below n: the state y of the second is offset + y, and where a state of both has one number
-- each word ends in one kind from it.
pub record Beside (L R : Machine) (offset n : ℕ) : Type 0 where
  pub signs : R.signs ≡ L.signs
  pub left_in : L.size ≤ n
  pub right_in : offset + R.size ≤ n
  pub one : (u : List ℕ) → (g : ℕ → ℕ) × ((x : ℕ) → x < L.size → g x ≡ ends L x u) × ((y : ℕ) → y < R.size → g (offset + y) ≡ ends R y u)

-- The search from the pair p, q stands at a sign of a pair: each pair is what its word leads p and q to, its two states are joined, and nothing else joins states.
pub record Paired (L R : Machine) (offset n p q : ℕ) (work : List ℕ) (pairs head sign : ℕ) : Type 0 where
  pub p_in : p < L.size
  pub q_in : q < R.size
  pub low : Low n work
  pub joined : (g : ℕ → ℕ) → ((i : ℕ) → i < pairs → g (left_of n work i) ≡ g (offset + right_of n work i)) → Constant g n work
  pub few : pairs + roots n work ≤ n
  pub left : (i : ℕ) → i < pairs → left_of n work i ≡ steps L p (word_of (from_of n work) (by_of n work) i)
  pub right : (i : ℕ) → i < pairs → right_of n work i ≡ steps R q (word_of (from_of n work) (by_of n work) i)
  pub search : Search (pair_step L R) (Parts L R) L.signs (p, q) (from_of n work) (by_of n work) pairs head sign

-- The word of a pair of the list, read back, is the one that parts p and q.
pub record FoundAt (L R : Machine) (n p q : ℕ) (work : List ℕ) (i : ℕ) : Type 0 where
  pub within : i < n
  pub earlier : Earlier (from_of n work) (suc i)
  pub leads : Leads (pair_step L R) (Parts L R) L.signs (p, q) (word_of (from_of n work) (by_of n work) i)

-- What the search leaves as it was: the slice's length, the states of the first pairs, and all beyond the first 5 × n numbers.
pub record Kept (n pairs : ℕ) (before after : List ℕ) : Type 0 where
  pub long : length after ≡ length before
  pub states : (i : ℕ) → i < pairs → (left_of n after i ≡ left_of n before i) × (right_of n after i ≡ right_of n before i)
  pub beyond : (i : ℕ) → 5 * n ≤ i → at after i ≡ at before i
