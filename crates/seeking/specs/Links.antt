-- Links, in the first n numbers of the work slice: each state leads to one that is not greater, and a root to itself. States of one root are joined.
use Rattle.std.specs.Prelude.{◌≡◌, Bool, true, false, List, ℕ, ◌≤◌, ◌<◌, eqb, length}
use Rattle.counting.specs.Lists.{at}
use Rattle.counting.specs.Counts.{count}

-- each state leads to one that is not greater
abbrev pub Low : ℕ → List ℕ → Type 0
Low n work = (z : ℕ) → z < n → at work z ≤ z

-- g is the same all along the links: so is what the joined states share
abbrev pub Constant : (ℕ → ℕ) → ℕ → List ℕ → Type 0
Constant g n work = (z : ℕ) → z < n → g (at work z) ≡ g z

-- how many roots there are
unfoldable pub roots : ℕ → List ℕ → ℕ
roots n work = count n (λ z. eqb (at work z) z)

-- On the way from x to its root the slice stands at r: links are shortened, the roots and what is joined are as they were.
pub record Climbed (n x : ℕ) (before after : List ℕ) (r : ℕ) : Type 0 where
  pub long : length after ≡ length before
  pub within : r < n
  pub low : Low n after
  pub same : (z : ℕ) → z < n → eqb (at after z) z ≡ eqb (at before z) z
  pub constant : (g : ℕ → ℕ) → Constant g n before → Constant g n after × (g r ≡ g x)
  pub beyond : (i : ℕ) → n ≤ i → at after i ≡ at before i

-- The two states were joined before.
pub record Together (n x y : ℕ) (before after : List ℕ) : Type 0 where
  pub long : length after ≡ length before
  pub low : Low n after
  pub same : roots n after ≡ roots n before
  pub constant : (g : ℕ → ℕ) → Constant g n before → Constant g n after × (g x ≡ g y)
  pub beyond : (i : ℕ) → n ≤ i → at after i ≡ at before i

-- The two states are joined now, and there is a root less.
pub record Linked (n x y : ℕ) (before after : List ℕ) : Type 0 where
  pub long : length after ≡ length before
  pub low : Low n after
  pub fewer : roots n after < roots n before
  pub constant : (g : ℕ → ℕ) → Constant g n before → g x ≡ g y → Constant g n after
  pub beyond : (i : ℕ) → n ≤ i → at after i ≡ at before i

-- What joining two states leaves, and whether they were apart.
pub record Joined (n x y : ℕ) (before after : List ℕ) (apart : Bool) : Type 0 where
  pub linked : apart ≡ true → Linked n x y before after
  pub together : apart ≡ false → Together n x y before after
