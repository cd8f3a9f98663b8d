-- Of the numbers below a bound: whether all pass a test, whether any does, how many do, and which; and the place of a number in a list.
use Rattle.std.specs.Prelude.{ℕ, zero, suc, ◌+◌, Bool, true, false, ◌&&◌, ◌||◌, List, [], ◌∷◌, ◌++◌, eqb, length}
use Rattle.counting.specs.Lists.{at}
use Rattle.counting.specs.Least.{pick, least}

-- every number below n passes
unfoldable pub all : ℕ → (ℕ → Bool) → Bool
all zero P = true
all (suc n) P = all n P && P n

-- some number below n passes
unfoldable pub any : ℕ → (ℕ → Bool) → Bool
any zero P = false
any (suc n) P = any n P || P n

-- how many numbers below n pass
unfoldable pub count : ℕ → (ℕ → Bool) → ℕ
count zero P = zero
count (suc n) P = count n P + pick (P n) 1 0

-- the numbers below n that pass, rising
unfoldable pub those : ℕ → (ℕ → Bool) → List ℕ
those zero P = []
those (suc n) P = those n P ++ pick (P n) (n ∷ []) []

-- two lists have the same numbers at the places below n
unfoldable pub agree : ℕ → List ℕ → List ℕ → Bool
agree n xs ys = all n (λ i. eqb (at xs i) (at ys i))

-- the first place of a number in a list, or the list's length
unfoldable pub place : List ℕ → ℕ → ℕ
place xs c = least (length xs) (λ i. eqb (at xs i) c)
