-- Laws of `and_then` and `refuse`: a chain of judgements stops at its first refusal, and goes on behind each part that gives.
use mathlib.Core.Path.{◌≡◌}
use mathlib.Core.Bool.{Bool, true, false}
use mathlib.Core.List.{List, []}
use Prim.Native.Nat.{ℕ}
use Rattle.counting.specs.Least.{pick}
use Rattle.table.specs.Answers.{Said, gives, refuses}
use Rattle.table.specs.Judging.{◌and_then◌, refuse}

pub stops : {s : Said} (rest : Said) {number place : ℕ} → s ≡ refuses number place → s and_then rest ≡ refuses number place
unfolding ◌and_then◌
stops rest e = rw e

pub goes_on : {s : Said} (rest : Said) {vs : List ℕ} → s ≡ gives vs → s and_then rest ≡ rest
unfolding ◌and_then◌
goes_on rest e = rw e

pub refused : {t : Bool} (number place : ℕ) → t ≡ true → refuse t number place ≡ refuses number place
unfolding refuse pick
refused number place e = rw e

pub passed : {t : Bool} (number place : ℕ) → t ≡ false → refuse t number place ≡ gives []
unfolding refuse pick
passed number place e = rw e
