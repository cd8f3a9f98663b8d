-- The lists of the rounds are of one length.
use Rattle.std.specs.Prelude.{◌≡◌, List, ℕ, length}

pub record Sized (n : ℕ) (laters links births parents heads : List ℕ) : Type 0 where
  pub long-laters : length laters ≡ n
  pub long-links : length links ≡ n
  pub long-births : length births ≡ n
  pub long-parents : length parents ≡ n
  pub long-heads : length heads ≡ n
