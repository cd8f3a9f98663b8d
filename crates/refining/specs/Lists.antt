-- The state of a splitting: for each state its class and its pending; when the two lists are well formed, and where they fail.
use Rattle.std.specs.Prelude.{◌≡◌, ◌≢◌, Bool, not, ◌&&◌, ◌||◌, List, ℕ, ◌≤◌, ◌<◌, eqb, leb}
use Rattle.counting.specs.Lists.{at}
use Rattle.counting.specs.Least.{least}
use Rattle.counting.specs.Counts.{any}

-- The class name of each state, and how many signs of each class wait.
pub record Split : Type 0 where
  pub class : List ℕ
  pub pending : List ℕ

-- Well formed, for n states and k signs.
pub record WellFormed (n k : ℕ) (s : Split) : Type 0 where
  pub low : (q : ℕ) → q < n → at s.class q ≤ q
  pub named : (q : ℕ) → q < n → at s.class (at s.class q) ≡ at s.class q
  pub few : (q : ℕ) → q < n → at s.pending q ≤ k
  pub none : (q : ℕ) → q < n → at s.class q ≢ q → at s.pending q ≡ 0

-- the four rules at one state, as a test
unfoldable pub formed : ℕ → Split → ℕ → Bool
formed k s q =
    leb (at s.class q) q
    && eqb (at s.class (at s.class q)) (at s.class q)
    && leb (at s.pending q) k
    && (eqb (at s.pending q) 0 || eqb (at s.class q) q)

-- the least state where a rule fails; n where none does
unfoldable pub ill_formed : ℕ → ℕ → Split → ℕ
ill_formed n k s = least n (λ q. not (formed k s q))

-- something waits
unfoldable pub waiting : ℕ → Split → Bool
waiting n s = any n (λ q. not (eqb (at s.pending q) 0))
