-- Laws of `on_file` and `refusing`: what a call leaves at its first refusal, and behind each test that fails.
use mathlib.Core.Path.{◌≡◌, ap}
use mathlib.Core.Bool.{Bool, true, false}
use mathlib.Core.List.{List, []}
use Prim.Native.Nat.{ℕ}
use native.Mathlib.Omega.{arith}
use lib.ListN.{get_or}
use Rattle.counting.specs.Least.{pick}
use Rattle.table.specs.Answers.{Said, gives, refuses, when_given}
use Rattle.table.specs.Judging.{judged}
use Rattle.table.specs.Leaving.{Left, left, on_file, refusing}

-- no answer is a refusal
pub not_refused : {vs : List ℕ} {number place : ℕ} → gives vs ≡ refuses number place → ⊥
not_refused e = let z : ◌≡◌ {A = ℕ} 0 1 = cc in omega arith

module _ (file : List ℕ) (lent : List (List ℕ)) (rest : Left) where
  pub file_refused : {number place : ℕ} → judged file ≡ refuses number place → on_file file lent rest ≡ left (refuses number place) lent
  unfolding on_file when_given
  file_refused e = rw e

  pub file_given : {vs : List ℕ} → judged file ≡ gives vs → on_file file lent rest ≡ rest
  unfolding on_file when_given
  file_given e = rw e

module _ {t : Bool} (number place : ℕ) (lent : List (List ℕ)) (rest : Left) where
  pub refuses_here : t ≡ true → refusing t number place lent rest ≡ left (refuses number place) lent
  unfolding refusing pick
  refuses_here e = rw e

  pub refuses_not : t ≡ false → refusing t number place lent rest ≡ rest
  unfolding refusing pick
  refuses_not e = rw e

-- what is left in one piece is left in each
module _ {r s : Said} {ls ms : List (List ℕ)} (e : left r ls ≡ left s ms) where
  pub left_said : r ≡ s
  left_said = ap (λ (x : Left). x.said) e

  pub left_lent : (i : ℕ) → get_or ls i [] ≡ get_or ms i []
  left_lent i = ap (λ (x : Left). get_or x.lent i []) e
