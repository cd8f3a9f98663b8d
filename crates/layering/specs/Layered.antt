-- A layer in the rounds' lists, and in the work slice.
use Rattle.std.specs.Prelude.{◌≡◌, ◌≢◌, List, ℕ, ◌*◌, ◌≤◌, ◌<◌, eqb, length}
use Rattle.counting.specs.Lists.{at}
use Rattle.counting.specs.Least.{name}
use Rattle.automaton.specs.Machine.{Machine}
use Rattle.automaton.specs.Layers.{layer, rounds}
use Rattle.automaton.specs.Births.{birth, parent}
use Rattle.layering.specs.Work.{this, born, from}

-- The lists hold layer i: the name of each state; the birth of each name, and the parent of each name that layer 0 does not have.
pub record AtLayer (M : Machine) (i : ℕ) (names births parents : List ℕ) : Type 0 where
  pub reached : i ≤ rounds M
  pub named : names ≡ layer M i
  pub born-in : (c : ℕ) → c < M.size → at (layer M i) c ≡ c → at births c ≡ birth M c
  pub comes_from : (c : ℕ) → c < M.size → at (layer M i) c ≡ c → at (layer M 0) c ≢ c → at parents c ≡ parent M c

-- What the rounds leave in the lists: the last layer, r being the rounds.
pub record Rested (M : Machine) (names births parents : List ℕ) (r : ℕ) : Type 0 where
  pub last : r ≡ rounds M
  pub layered : AtLayer M r names births parents

-- The work slice holds layer i: the name of each state; the birth of each name, and the parent of each name that layer 0 does not have.
pub record InLayer (M : Machine) (i : ℕ) (work : List ℕ) : Type 0 where
  pub reached : i ≤ rounds M
  pub names : (x : ℕ) → x < M.size → this work x ≡ at (layer M i) x
  pub births : (c : ℕ) → c < M.size → at (layer M i) c ≡ c → born M.size work c ≡ birth M c
  pub parents : (c : ℕ) → c < M.size → at (layer M i) c ≡ c → at (layer M 0) c ≢ c → from M.size work c ≡ parent M c

-- What the rounds leave: the last layer, r being the rounds, and all beyond the first 6 × n numbers as it was.
pub record Settled (M : Machine) (before after : List ℕ) (r : ℕ) : Type 0 where
  pub long : length after ≡ length before
  pub last : r ≡ rounds M
  pub layered : InLayer M r after
  pub beyond : (i : ℕ) → 6 * M.size ≤ i → at after i ≡ at before i

-- The first names so far: each of the first q states has the first state of its mark for a name; all else is as it was.
pub record FirstNamed (marks : List ℕ) (q : ℕ) (before after : List ℕ) : Type 0 where
  pub long : length after ≡ length before
  pub names : (x : ℕ) → x < q → at after x ≡ name (λ y z. eqb (at marks y) (at marks z)) x
  pub beyond : (i : ℕ) → q ≤ i → at after i ≡ at before i

-- The first q names are born in layer 0; all but the births is as it was.
pub record Unborn (n q : ℕ) (before after : List ℕ) : Type 0 where
  pub long : length after ≡ length before
  pub births : (x : ℕ) → x < q → born n after x ≡ 0
  pub below : (i : ℕ) → i < 3 * n → at after i ≡ at before i
  pub beyond : (i : ℕ) → 4 * n ≤ i → at after i ≡ at before i

-- The first names: each state has the first state of its mark for a name, born in layer 0; all beyond the first 6 × n numbers is as it was.
pub record Begun (n : ℕ) (marks before after : List ℕ) : Type 0 where
  pub long : length after ≡ length before
  pub names : (x : ℕ) → x < n → this after x ≡ name (λ y z. eqb (at marks y) (at marks z)) x
  pub births : (c : ℕ) → c < n → born n after c ≡ 0
  pub beyond : (i : ℕ) → 6 * n ≤ i → at after i ≡ at before i
