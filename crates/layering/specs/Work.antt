-- The rounds. In the work slice the first 6 × n numbers hold, n each: the names of this layer, those of the next, for each new name the one before it in its
-- bucket, the birth of each name, its parent, and the last new name of each bucket; the rounds have them as six lists.
use Rattle.std.specs.Prelude.{◌≡◌, ◌≢◌, Bool, true, false, List, ℕ, zero, suc, ◌+◌, ◌*◌, ◌/◌, ◌%◌, ◌≤◌, ◌<◌, eqb}
use Rattle.counting.specs.Lists.{at}
use Rattle.counting.specs.Least.{name}
use Rattle.counting.specs.Counts.{all}
use Rattle.automaton.specs.Machine.{Machine}
use Rattle.automaton.specs.Layers.{alike_next}
use Rattle.table.specs.Encoding.{machine_in}
use Rattle.table.specs.declared.tables.NextStates.{NextStates}
use Rattle.layering.specs.declared.rooms.Rooms.{Rooms}
use Rattle.layering.specs.declared.rounds.Seek.{Seek}
use Rattle.layering.specs.declared.rounds.Seek.TheVariants.{Found, New as Newly}

-- the name of a state, the birth of a name, and its parent, by their places in the slice
abbrev pub this : List ℕ → ℕ → ℕ
this work q = at work q

abbrev pub born : ℕ → List ℕ → ℕ → ℕ
born n work q = at work (3 * n + q)

abbrev pub from : ℕ → List ℕ → ℕ → ℕ
from n work q = at work (4 * n + q)

-- the six lists
pub record Numbers : Type 0 where
  pub names : List ℕ
  pub laters : List ℕ
  pub links : List ℕ
  pub births : List ℕ
  pub parents : List ℕ
  pub heads : List ℕ

abbrev pub numbers_of : Rooms → Numbers
numbers_of r = record {
  names = r.names.now;
  laters = r.laters.now;
  links = r.links.now;
  births = r.births.now;
  parents = r.parents.now;
  heads = r.heads.now;
}

-- Each list is where it was.
pub record Kept (before after : Rooms) : Type 0 where
  pub names : after.names.ghost_name ≡ before.names.ghost_name
  pub laters : after.laters.ghost_name ≡ before.laters.ghost_name
  pub links : after.links.ghost_name ≡ before.links.ghost_name
  pub births : after.births.ghost_name ≡ before.births.ghost_name
  pub parents : after.parents.ghost_name ≡ before.parents.ghost_name
  pub heads : after.heads.ghost_name ≡ before.heads.ghost_name

-- the machine of next states whose marks are the names of a layer
abbrev pub marked_by : NextStates → List ℕ → Machine
marked_by t names = machine_in t.sizes.states t.sizes.signs t.sizes.start names t.bytes.now

-- the names of a state and of its next states, mixed to one number, the first a signs
unfoldable pub mixed : Machine → List ℕ → ℕ → ℕ → ℕ
mixed M names q zero = at names q
mixed M names q (suc a) = (mixed M names q a * 2654435761 + at names (M.next q a)) % 4294967296

-- the bucket of a state: equal for states with equal names and equal names of next states
unfoldable pub bucket : Machine → List ℕ → ℕ → ℕ
bucket M names q = mixed M names q M.signs / 65536 % M.size

-- the next states of two states have the same names under every sign
unfoldable pub same_nexts : Machine → List ℕ → ℕ → ℕ → Bool
same_nexts M names q r = all M.signs (λ a. eqb (at names (M.next q a)) (at names (M.next r a)))

-- The names of this layer: each a state not greater, and its own name.
pub record Named (n : ℕ) (names : List ℕ) : Type 0 where
  pub low : (q : ℕ) → q < n → at names q ≤ q
  pub named : (q : ℕ) → q < n → at names (at names q) ≡ at names q

-- a new name of the next layer, of a state below q
pub record New (names laters : List ℕ) (q s : ℕ) : Type 0 where
  pub below : s < q
  pub named : at laters s ≡ s
  pub fresh : at names s ≢ s

-- The states below q are done: their names in the next layer are right, and the new ones stand in their buckets, falling: the head is the greatest of its bucket, and
-- each leads to the greatest below it; 0, which is never a new name, stands for none.
pub record Done (M : Machine) (w : Numbers) (q : ℕ) : Type 0 where
  pub right : (s : ℕ) → s < q → at w.laters s ≡ name (alike_next M w.names) s
  pub heads : (b : ℕ) → b < M.size → at w.heads b ≢ 0 → New w.names w.laters q (at w.heads b) × (bucket M w.names (at w.heads b) ≡ b)
  pub links : (s : ℕ) → New w.names w.laters q s → at w.links s ≢ 0 → (at w.links s < s) × New w.names w.laters q (at w.links s) × (bucket M w.names (at w.links s) ≡ bucket M w.names s)
  pub greatest : (s : ℕ) → New w.names w.laters q s → s ≤ at w.heads (bucket M w.names s)
  pub next : (r s : ℕ) → New w.names w.laters q r → New w.names w.laters q s → bucket M w.names r ≡ bucket M w.names s → s < r → s ≤ at w.links r

-- What looking for a name gives: the state's name in the next layer, which was there before it or is the one it had; or, its name being its own and new, its bucket.
abbrev pub Sought : Machine → List ℕ → ℕ → Seek → Type 0
Sought M names q (Found r) = (r ≤ q) × (name (alike_next M names) q ≡ r) × (r ≡ q → at names q ≡ q)
Sought M names q (Newly b) = (b ≡ bucket M names q) × (b < M.size) × (at names q ≢ q) × (name (alike_next M names) q ≡ q)

-- What naming a state leaves: this layer's names as they were, one state more done, and births and parents as they were but for a new name's own.
pub record Advanced (M : Machine) (before after : Numbers) (q round : ℕ) (new : Bool) : Type 0 where
  pub same : after.names ≡ before.names
  pub laters : (x : ℕ) → x ≢ q → at after.laters x ≡ at before.laters x
  pub done : Done M after (suc q)
  pub births : (c : ℕ) → (c ≡ q → new ≡ false) → (at after.births c ≡ at before.births c) × (at after.parents c ≡ at before.parents c)
  pub newborn : new ≡ true → (at after.laters q ≡ q) × (at before.names q < q) × (at after.births q ≡ round) × (at after.parents q ≡ at before.names q)
  pub quiet : new ≡ false → at after.laters q ≡ q → at before.names q ≡ q

-- A round so far: the states below q are named in the next layer, the names of this layer are as they were, and each new name has its birth and its parent.
pub record Rounded (M : Machine) (before after : Numbers) (round q : ℕ) (changed : Bool) : Type 0 where
  pub same : after.names ≡ before.names
  pub done : Done M after q
  pub fresh : (c : ℕ) → c < q → at after.laters c ≡ c → at before.names c ≢ c → (at after.births c ≡ round) × (at after.parents c ≡ at before.names c)
  pub stale : (c : ℕ) → (c < q → at after.laters c ≡ c → at before.names c ≡ c) → (at after.births c ≡ at before.births c) × (at after.parents c ≡ at before.parents c)
  pub quiet : changed ≡ false → (x : ℕ) → x < q → at after.laters x ≡ x → at before.names x ≡ x
  pub busy : changed ≡ true → (x : ℕ) × (x < q) × (at after.laters x ≡ x) × (at before.names x < x)

-- The names of the next layer are taken over; all else is as it was.
pub record Moved (before after : Numbers) : Type 0 where
  pub names : after.names ≡ before.laters
  pub laters : after.laters ≡ before.laters
  pub links : after.links ≡ before.links
  pub births : after.births ≡ before.births
  pub parents : after.parents ≡ before.parents
  pub heads : after.heads ≡ before.heads
