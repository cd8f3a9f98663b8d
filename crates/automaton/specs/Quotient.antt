-- The smallest machine: one row for each class that holds a reachable state. The order of the rows is used through `RowsOf` alone.
use Rattle.std.specs.Prelude.{◌≡◌, Bool, false, ◌&&◌, List, ℕ, ◌<◌, eqb, length, get_or}
use Rattle.counting.specs.Lists.{at}
use Rattle.counting.specs.Counts.{any, those, place}
use Rattle.automaton.specs.Machine.{Machine}
use Rattle.automaton.specs.Words.{Same, Reached}
use Rattle.automaton.specs.Layers.{classes}
use Rattle.automaton.specs.Reach.{reachable}

-- the class names that a state of the list has, in rising order
unfoldable pub rows_for : ℕ → List ℕ → List Bool → List ℕ
rows_for n cs reached = those n (λ c. any n (λ q. get_or reached q false && eqb (at cs q) c))

-- the rows: the names of the classes that hold a state reachable from the start, in rising order
unfoldable pub rows : Machine → List ℕ
rows M = rows_for M.size (classes M) (reachable M)

-- the machine over row numbers, by a list of class names and a list of rows
abbrev pub quotient_by : Machine → List ℕ → List ℕ → Machine
quotient_by M cs rs = record {
  size = length rs;
  signs = M.signs;
  start = place rs (at cs M.start);
  next = λ i a. place rs (at cs (M.next (at rs i) a));
  kind = λ i. M.kind (at rs i);
}

abbrev pub quotient : Machine → Machine
quotient M = quotient_by M (classes M) (rows M)

-- A list of rows: the class of each reachable state stands there, nothing else does, and none twice.
pub record RowsOf (M : Machine) (rs : List ℕ) : Type 0 where
  pub here : (q : ℕ) → q < M.size → Reached M q → (i : ℕ) × (i < length rs) × (at rs i ≡ at (classes M) q)
  pub only : (i : ℕ) → i < length rs → (q : ℕ) × (q < M.size) × Reached M q × (at (classes M) q ≡ at rs i)
  pub once : (i j : ℕ) → i < length rs → j < length rs → at rs i ≡ at rs j → i ≡ j

-- every state is reached
abbrev pub Connected : Machine → Type 0
Connected M = (q : ℕ) → q < M.size → Reached M q

-- no two states are the same to every word
abbrev pub Collapsed : Machine → Type 0
Collapsed M = (p q : ℕ) → p < M.size → q < M.size → Same M p q → p ≡ q

-- The two are one machine up to the order of their rows.
pub record Isomorphic (M N : Machine) : Type 0 where
  pub to : ℕ → ℕ
  pub from : ℕ → ℕ
  pub to_in : (q : ℕ) → q < M.size → to q < N.size
  pub from_in : (q : ℕ) → q < N.size → from q < M.size
  pub from_to : (q : ℕ) → q < M.size → from (to q) ≡ q
  pub to_from : (q : ℕ) → q < N.size → to (from q) ≡ q
  pub start : to M.start ≡ N.start
  pub next : (q a : ℕ) → q < M.size → a < M.signs → to (M.next q a) ≡ N.next (to q) a
  pub kind : (q : ℕ) → q < M.size → M.kind q ≡ N.kind (to q)
