-- The machine that stands in an accepted file, and the file that a machine in range is written as.
use Rattle.std.specs.Prelude.{◌≡◌, List, ◌∷◌, ◌++◌, ℕ, ◌+◌, ◌*◌, ◌≤◌, ◌<◌, length, get_or}
use Rattle.counting.specs.Lists.{tab, flat}
use Rattle.automaton.specs.Machine.{Machine, Lawful}
use Rattle.lending.specs.Pairs.{pair_at, pair}
use Rattle.table.specs.Judging.{states_of, signs_of, start_of}
use Rattle.table.specs.Rows.{InRange}
use Rattle.table.specs.Bodies.{part}

-- the machine of n states, k signs and a start whose marks and next states stand in these bytes
abbrev pub machine_in : ℕ → ℕ → ℕ → List ℕ → List ℕ → Machine
machine_in n k start marks nexts = record {
  size = n;
  signs = k;
  start = start;
  next = λ q a. pair_at nexts (2 * (q * k + a));
  kind = λ q. get_or marks q 0;
}

-- n, k and start from field 1, the marks as kinds from the body of field 2, the next states from that of field 3
abbrev pub machine_of : List ℕ → Machine
machine_of file =
    machine_in (states_of file) (signs_of file) (start_of file) (part file 12 (states_of file)) (part file (12 + states_of file + 3) (2 * (states_of file * signs_of file)))

-- The body of field 3 of an accepted file: as long as it must be, the sizes in range, the start and every next state a state.
pub record Held (n k start : ℕ) (nexts : List ℕ) : Type 0 where
  pub range : InRange n k
  pub long : length nexts ≡ 2 * (n * k)
  pub start-in : start < n
  pub next_in : (q a : ℕ) → q < n → a < k → pair_at nexts (2 * (q * k + a)) < n

-- The body of field 2 of an accepted file: at most as many marks as a table may have states, each 0 or 1.
pub record Marked (marks : List ℕ) : Type 0 where
  pub few : length marks ≤ 1024
  pub small : (q : ℕ) → q < length marks → get_or marks q 0 < 2

-- A machine that a file can hold: lawful, its sizes in range, its kinds marks.
pub record MachineInRange (M : Machine) : Type 0 where
  pub lawful : Lawful M
  pub range : InRange M.size M.signs
  pub marks : (q : ℕ) → q < M.size → M.kind q ≤ 1

-- a field: a one-byte tag, a two-byte length, then that many bytes
unfoldable pub field_of : ℕ → List ℕ → List ℕ
field_of tag body = tag ∷ pair (length body) ++ body

-- n, k, start; the marks, state 0 first; all signs of state 0, then of state 1, and so on
unfoldable pub encode : Machine → List ℕ
encode M =
    field_of 1 (pair M.size ++ pair M.signs ++ pair M.start)
    ++ field_of 2 (tab M.size M.kind)
    ++ field_of 3 (flat M.size (λ q. flat M.signs (λ a. pair (M.next q a))))

-- Every element is a byte, as in every file that code is lent.
abbrev pub Bytes : List ℕ → Type 0
Bytes file = (i : ℕ) → get_or file i 0 < 256
