-- The machine: a complete deterministic automaton, what it obeys, and when two are one.
use Rattle.std.specs.Prelude.{◌≡◌, ℕ, ◌<◌}

-- States 0 to size − 1, signs 0 to signs − 1, a start state, one next state for each state and sign, a kind (the mark) for each state.
pub record Machine : Type 0 where
  pub size : ℕ
  pub signs : ℕ
  pub start : ℕ
  pub next : ℕ → ℕ → ℕ
  pub kind : ℕ → ℕ

-- There is a state and a sign, and the start and every next state are states.
pub record Lawful (M : Machine) : Type 0 where
  pub some_state : 0 < M.size
  pub some_sign : 0 < M.signs
  pub start-in : M.start < M.size
  pub next_in : (q a : ℕ) → q < M.size → a < M.signs → M.next q a < M.size

-- One machine: the same sizes and start, and at every state and sign the same next state and kind.
pub record Agree (M N : Machine) : Type 0 where
  pub size : M.size ≡ N.size
  pub signs : M.signs ≡ N.signs
  pub start : M.start ≡ N.start
  pub next : (q a : ℕ) → q < M.size → a < M.signs → M.next q a ≡ N.next q a
  pub kind : (q : ℕ) → q < M.size → M.kind q ≡ N.kind q
