-- The rounds at their places in the one work slice. Its first 6 × n numbers hold, n each, the six lists of `Work`. Rests on `Work`, whose buckets and tests read a list's front alone.
use Rattle.std.specs.Prelude.{◌≡◌, ◌≢◌, Bool, true, false, List, ℕ, ◌+◌, ◌*◌, ◌≤◌, ◌<◌, length, take}
use Rattle.counting.specs.Lists.{at}
use Rattle.counting.specs.Least.{name}
use Rattle.automaton.specs.Machine.{Machine}
use Rattle.automaton.specs.Layers.{alike_next}
use Rattle.layering.specs.Work.{this, born, from, bucket}

-- the name of a state in the next layer, the new name before one in its bucket, and the head of a bucket
abbrev pub later : ℕ → List ℕ → ℕ → ℕ
later n work q = at work (n + q)

abbrev pub link : ℕ → List ℕ → ℕ → ℕ
link n work q = at work (2 * n + q)

abbrev pub head : ℕ → List ℕ → ℕ → ℕ
head n work b = at work (5 * n + b)

-- a new name of the next layer, of a state below q
pub record NewIn (n : ℕ) (work : List ℕ) (q s : ℕ) : Type 0 where
  pub below : s < q
  pub named : later n work s ≡ s
  pub fresh : this work s ≢ s

-- The states below q are done: their names in the next layer are right, and the new ones stand in their buckets, falling: the head is the greatest of its bucket, and
-- each leads to the greatest below it; 0, which is never a new name, stands for none.
pub record DoneIn (M : Machine) (work : List ℕ) (q : ℕ) : Type 0 where
  pub right : (s : ℕ) → s < q → later M.size work s ≡ name (alike_next M (take M.size work)) s
  pub heads : (b : ℕ) → b < M.size → head M.size work b ≢ 0 → NewIn M.size work q (head M.size work b) × (bucket M work (head M.size work b) ≡ b)
  pub links : (s : ℕ) → NewIn M.size work q s → link M.size work s ≢ 0 → (link M.size work s < s) × NewIn M.size work q (link M.size work s) × (bucket M work (link M.size work s) ≡ bucket M work s)
  pub greatest : (s : ℕ) → NewIn M.size work q s → s ≤ head M.size work (bucket M work s)
  pub next : (r s : ℕ) → NewIn M.size work q r → NewIn M.size work q s → bucket M work r ≡ bucket M work s → s < r → s ≤ link M.size work r

-- A round so far: the states below q are named in the next layer, the names of this layer are as they were, and each new name has its birth and its parent.
pub record RoundedIn (M : Machine) (before after : List ℕ) (round q : ℕ) (changed : Bool) : Type 0 where
  pub long : length after ≡ length before
  pub same : (x : ℕ) → x < M.size → this after x ≡ this before x
  pub done : DoneIn M after q
  pub fresh : (c : ℕ) → c < q → later M.size after c ≡ c → this before c ≢ c → (born M.size after c ≡ round) × (from M.size after c ≡ this before c)
  pub stale : (c : ℕ) → c < M.size → (c < q → later M.size after c ≡ c → this before c ≡ c) → (born M.size after c ≡ born M.size before c) × (from M.size after c ≡ from M.size before c)
  pub quiet : changed ≡ false → (x : ℕ) → x < q → later M.size after x ≡ x → this before x ≡ x
  pub busy : changed ≡ true → (x : ℕ) × (x < q) × (later M.size after x ≡ x) × (this before x < x)
  pub beyond : (i : ℕ) → 6 * M.size ≤ i → at after i ≡ at before i

-- The first q names of the next layer are taken over; all else is as it was.
pub record MovedIn (n q : ℕ) (before after : List ℕ) : Type 0 where
  pub long : length after ≡ length before
  pub moved : (x : ℕ) → x < q → this after x ≡ later n before x
  pub rest : (i : ℕ) → q ≤ i → at after i ≡ at before i
