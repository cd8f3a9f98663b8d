-- What a splitting step guarantees, over any set of waiting pairs of a class and a sign. The invariants are proved from this alone.
use Rattle.std.specs.Prelude.{◌≡◌, ◌≢◌, ◌⊎◌, Bool, true, false, ℕ, ◌*◌, ◌≤◌, ◌<◌, eqb}
use Rattle.counting.specs.Counts.{count}
use Rattle.automaton.specs.Machine.{Machine}

-- how many states are in a state's class
unfoldable pub mates : ℕ → (ℕ → ℕ) → ℕ → ℕ
mates n class t = count n (λ x. eqb (class x) (class t))

-- A step by class q and sign a, from classes and waiting pairs to others.
pub record Guarantees (M : Machine) (class : ℕ → ℕ) (waits : ℕ → ℕ → Bool) (q a : ℕ) (class' : ℕ → ℕ) (waits' : ℕ → ℕ → Bool) : Type 0 where
  -- the pair waited
  pub sign : a < M.signs
  pub waited : waits q a ≡ true
  -- classes are parted only
  pub refines : (x y : ℕ) → x < M.size → y < M.size → class' x ≡ class' y → class x ≡ class y
  -- exactly by whether the next state under the sign lay in the class
  pub parted : (x y : ℕ) → x < M.size → y < M.size → class' x ≡ class' y → eqb (class (M.next x a)) q ≡ eqb (class (M.next y a)) q
  pub joined : (x y : ℕ) → x < M.size → y < M.size → class x ≡ class y → eqb (class (M.next x a)) q ≡ eqb (class (M.next y a)) q → class' x ≡ class' y
  -- what waited waits still, in every part, but for the pair taken
  pub stays : (x b : ℕ) → x < M.size → b < M.signs → waits (class x) b ≡ true → ((class x ≡ q) × (b ≡ a) → ⊥) → waits' (class' x) b ≡ true
  -- of the two parts of a class one waits with each sign
  pub halved : (x y b : ℕ) → x < M.size → y < M.size → b < M.signs → class x ≡ class y → class' x ≢ class' y → (waits' (class' x) b ≡ true) ⊎ (waits' (class' y) b ≡ true)
  -- a part that waits anew is at most half of its class
  pub small : (x b : ℕ) → x < M.size → b < M.signs → waits' (class' x) b ≡ true → (waits (class x) b ≡ false) ⊎ ((class x ≡ q) × (b ≡ a)) → 2 * mates M.size class' x ≤ mates M.size class x
