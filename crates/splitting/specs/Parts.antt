-- The passes of a take that splits a class, number by number.
use Rattle.std.specs.Prelude.{◌≡◌, ◌≢◌, Bool, not, ◌&&◌, List, ℕ, ◌+◌, ◌-◌, ◌≤◌, ◌<◌, eqb, ltb, leb, length, set}
use Rattle.counting.specs.Lists.{at}
use Rattle.counting.specs.Least.{pick}

-- One state of class c named anew: the first that goes is noted, those that go are counted, and the name is the first that goes or the class's own.
pub record Named (c x : ℕ) (goes : Bool) (firsts gones names firsts' gones' names' : List ℕ) : Type 0 where
  pub long : (length firsts' ≡ length firsts) × (length gones' ≡ length gones) × (length names' ≡ length names)
  pub first : at firsts' c ≡ pick (goes && eqb (at firsts c) 0) x (at firsts c)
  pub gone : at gones' c ≡ pick goes (at gones c + 1) (at gones c)
  pub name : at names' x ≡ pick goes (at firsts' c) c
  pub other_firsts : (d : ℕ) → d ≢ c → at firsts' d ≡ at firsts d
  pub other_gones : (d : ℕ) → d ≢ c → at gones' d ≡ at gones d
  pub other_names : (y : ℕ) → y ≢ x → at names' y ≡ at names y

-- The numbers of the classes that are shared among their parts.
pub record Numbers : Type 0 where
  pub sizes : List ℕ
  pub firsts : List ℕ
  pub gones : List ℕ
  pub pendings : List ℕ

abbrev pub numbers : List ℕ → List ℕ → List ℕ → List ℕ → Numbers
numbers sizes firsts gones pendings = record { sizes = sizes; firsts = firsts; gones = gones; pendings = pendings }

-- the states of a class that keep its name
abbrev pub kept_of : Numbers → ℕ → ℕ
kept_of w p = at w.sizes p - at w.gones p

-- the pending of the kept name, and of the new one: the part that isn't larger waits with all signs where it keeps the name, else the other does
unfoldable pub kept_pending : ℕ → Numbers → ℕ → ℕ
kept_pending k w p = pick (leb (kept_of w p) (at w.gones p)) k (at w.pendings p)

unfoldable pub new_pending : ℕ → Numbers → ℕ → ℕ
new_pending k w p = pick (leb (kept_of w p) (at w.gones p)) (at w.pendings p) k

-- The new name of a split class is greater, is not split itself, and belongs to one class only; and no more states go than a class has.
pub record Fit (w : Numbers) : Type 0 where
  pub long : (length w.firsts ≡ length w.sizes) × (length w.gones ≡ length w.sizes) × (length w.pendings ≡ length w.sizes)
  pub within : (p : ℕ) → p < length w.sizes → (at w.firsts p < length w.sizes) × (at w.gones p ≤ at w.sizes p)
  pub apart : (p : ℕ) → p < length w.sizes → at w.firsts p ≢ 0 → (p < at w.firsts p) × (at w.firsts (at w.firsts p) ≡ 0)
  pub single : (p r : ℕ) → p < length w.sizes → r < length w.sizes → at w.firsts p ≢ 0 → at w.firsts p ≡ at w.firsts r → p ≡ r

-- One class shared among its two parts, where it is split; no change where it is not.
pub record Parted (k p : ℕ) (before after : Numbers) : Type 0 where
  pub whole : at before.firsts p ≡ 0 → after ≡ before
  pub sizes : at before.firsts p ≢ 0 → after.sizes ≡ set (set before.sizes (at before.firsts p) (at before.gones p)) p (kept_of before p)
  pub firsts : at before.firsts p ≢ 0 → after.firsts ≡ set before.firsts p 0
  pub gones : at before.firsts p ≢ 0 → after.gones ≡ set before.gones p 0
  pub pendings : at before.firsts p ≢ 0 → after.pendings ≡ set (set before.pendings (at before.firsts p) (new_pending k before p)) p (kept_pending k before p)

-- The classes below m shared: of each that is split the kept name and the new one have their pending and size, and its first and gone are 0; all else is as it was.
pub record Shared (k m : ℕ) (before after : Numbers) : Type 0 where
  pub long : (length after.sizes ≡ length before.sizes) × (length after.firsts ≡ length before.firsts) × (length after.gones ≡ length before.gones) × (length after.pendings ≡ length before.pendings)
  pub kept : (p : ℕ) → p < m → at before.firsts p ≢ 0 → (at after.pendings p ≡ kept_pending k before p) × (at after.sizes p ≡ kept_of before p)
  pub new : (p : ℕ) → p < m → at before.firsts p ≢ 0 → (at after.pendings (at before.firsts p) ≡ new_pending k before p) × (at after.sizes (at before.firsts p) ≡ at before.gones p)
  pub others : (y : ℕ) → (y < m → at before.firsts y ≡ 0) → ((p : ℕ) → p < m → at before.firsts p ≢ 0 → y ≢ at before.firsts p) → (at after.pendings y ≡ at before.pendings y) × (at after.sizes y ≡ at before.sizes y)
  pub firsts : (p : ℕ) → at after.firsts p ≡ pick (ltb p m) 0 (at before.firsts p)
  pub gones : (p : ℕ) → at after.gones p ≡ pick (ltb p m && not (eqb (at before.firsts p) 0)) 0 (at before.gones p)
