-- The rows, in lists of lent memory: 1 for each state that is reached and else 0; 1 for each class that holds one and else 0; the row number of each such
-- class; the class names of the rows; and the classes of the states.
use Rattle.std.specs.Prelude.{◌≡◌, ◌↔◌, ◌≢◌, Bool, true, false, ◌&&◌, List, ℕ, ◌+◌, ◌≤◌, ◌<◌, eqb, length, set, take}
use Rattle.counting.specs.Lists.{at}
use Rattle.counting.specs.Least.{pick}
use Rattle.counting.specs.Counts.{any, those, place}
use Rattle.automaton.specs.Machine.{Machine}
use Rattle.automaton.specs.Words.{Reached}

-- the state is a next state of q under one of the first a signs
unfoldable pub leads_to : Machine → ℕ → ℕ → ℕ → Bool
leads_to M q a x = any a (λ b. eqb (M.next q b) x)

-- The next states of q under the first a signs are marked; whether one was not before.
pub record Spread (M : Machine) (q a : ℕ) (before after : List ℕ) (new : Bool) : Type 0 where
  pub marks : (x : ℕ) → x < M.size → at after x ≡ pick (leads_to M q a x) 1 (at before x)
  pub quiet : new ≡ false → (x : ℕ) → x < M.size → at after x ≡ at before x
  pub busy : new ≡ true → (x : ℕ) × (x < M.size) × (at before x ≡ 0) × (at after x ≡ 1)

-- The same where q is marked; no change where it is not.
pub record SpreadMarked (M : Machine) (q : ℕ) (before after : List ℕ) (new : Bool) : Type 0 where
  pub marked : at before q ≢ 0 → Spread M q M.signs before after new
  pub unmarked : at before q ≡ 0 → (after ≡ before) × (new ≡ false)

-- Every mark is 0 or 1, the start is marked, and a marked state is reached.
pub record Sound (M : Machine) (reached : List ℕ) : Type 0 where
  pub small : (x : ℕ) → x < M.size → at reached x ≤ 1
  pub start : at reached M.start ≡ 1
  pub only : (x : ℕ) → x < M.size → at reached x ≡ 1 → Reached M x

-- What a sweep leaves: marks are only set; none was set exactly when it says so, and then the next states of every marked state are marked.
pub record Swept (M : Machine) (before after : List ℕ) (new : Bool) : Type 0 where
  pub sound : Sound M after
  pub kept : (x : ℕ) → x < M.size → at before x ≡ 1 → at after x ≡ 1
  pub quiet : new ≡ false → (x a : ℕ) → x < M.size → a < M.signs → at after x ≡ 1 → at after (M.next x a) ≡ 1
  pub busy : new ≡ true → (x : ℕ) × (x < M.size) × (at before x ≡ 0) × (at after x ≡ 1)

-- The marked states are those that are reached; the others have 0.
pub record FoundIn (M : Machine) (reached : List ℕ) : Type 0 where
  pub small : (x : ℕ) → x < M.size → at reached x ≤ 1
  pub marks : (x : ℕ) → x < M.size → (at reached x ≡ 1) ↔ Reached M x

-- The same at the front of a slice, and all beyond as it was.
pub record Found (M : Machine) (before after : List ℕ) : Type 0 where
  pub long : length after ≡ length before
  pub small : (x : ℕ) → x < M.size → at after x ≤ 1
  pub reached : (x : ℕ) → x < M.size → (at after x ≡ 1) ↔ Reached M x
  pub beyond : (i : ℕ) → M.size ≤ i → at after i ≡ at before i

-- a class that holds one of the first x states that are marked
unfoldable pub holds : List ℕ → List ℕ → ℕ → ℕ → Bool
holds reached classes x c = any x (λ q. eqb (at reached q) 1 && eqb (at classes q) c)

-- the flags with the class of q flagged, where q is marked
unfoldable pub flagged_by : List ℕ → List ℕ → ℕ → List ℕ → List ℕ
flagged_by reached classes q flags = pick (eqb (at reached q) 1) (set flags (at classes q) 1) flags

-- The classes of the first x marked states are flagged, and no others.
abbrev pub Flagged : List ℕ → List ℕ → ℕ → List ℕ → Type 0
Flagged reached classes x flags = (c : ℕ) → c < length flags → at flags c ≡ pick (holds reached classes x c) 1 0

-- the flagged classes below c, rising
unfoldable pub flagged_below : List ℕ → ℕ → List ℕ
flagged_below flags c = those c (λ d. eqb (at flags d) 1)

-- One class numbered and listed as the next row, where it is flagged; no change where it is not.
pub record NumberedBy (flags : List ℕ) (c count : ℕ) (numbers renumbered rows listed : List ℕ) (r : ℕ) : Type 0 where
  pub flagged : at flags c ≡ 1 → (renumbered ≡ set numbers c count) × (listed ≡ set rows count c) × (r ≡ count + 1)
  pub unflagged : at flags c ≢ 1 → (renumbered ≡ numbers) × (listed ≡ rows) × (r ≡ count)

-- The flagged classes below c are numbered and listed, in rising order.
pub record Numbered (flags : List ℕ) (c : ℕ) (numbers rows : List ℕ) (count : ℕ) : Type 0 where
  pub counted : count ≡ length (flagged_below flags c)
  pub listed : take count rows ≡ flagged_below flags c
  pub places : (d : ℕ) → d < c → at flags d ≡ 1 → at numbers d ≡ place (flagged_below flags c) d
