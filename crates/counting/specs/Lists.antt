-- Lists made from a function of the index: one element each, or one list each.
use Rattle.std.specs.Prelude.{ℕ, zero, suc, List, [], ◌∷◌, ◌++◌, get_or}

-- what stands at a place of a list of numbers, 0 beyond its end
abbrev pub at : List ℕ → ℕ → ℕ
at xs i = get_or xs i 0

-- f 0, f 1, .. f (n - 1)
unfoldable pub tab {ℓ} : {A : Type ℓ} → ℕ → (ℕ → A) → List A
tab zero f = []
tab (suc n) f = f zero ∷ tab n (λ i. f (suc i))

-- the lists g 0, g 1, .. g (n - 1), one behind the other
unfoldable pub flat {ℓ} : {A : Type ℓ} → ℕ → (ℕ → List A) → List A
flat zero g = []
flat (suc n) g = g zero ++ flat n (λ i. g (suc i))
