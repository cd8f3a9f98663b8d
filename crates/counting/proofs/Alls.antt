-- What holds of every element of a list (and of what stands beyond its end), through `∷`, `++`, `tab` and `flat`.
use mathlib.Core.List.{List, [], ◌∷◌, ◌++◌}
use Prim.Native.Nat.{ℕ, zero, suc, ◌<◌}
use native.Mathlib.Omega.{arith}
use lib.ListN.{get_or}
use Rattle.counting.specs.Lists.{tab, flat}

-- at every place of the list, d standing beyond its end, P holds
pub record Every {ℓ} {A : Type ℓ} (P : A → Type 0) (d : A) (xs : List A) : Type 0 where
  pub at : (i : ℕ) → P (get_or xs i d)

module _ {ℓ} {A : Type ℓ} {P : A → Type 0} {d : A} where
  pub every_cons : {x : A} {xs : List A} → P x → Every P d xs → Every P d (x ∷ xs)
  every_cons {x} {xs} h t = record { at = place }
    where
      place : (i : ℕ) → P (get_or (x ∷ xs) i d)
      place zero = h
      place (suc i) = t.at i

  pub every_append : {xs ys : List A} → Every P d xs → Every P d ys → Every P d (xs ++ ys)
  every_append {xs} {ys} h t = go xs h
    where
      go : (xs : List A) → Every P d xs → Every P d (xs ++ ys)
      go [] h = t
      go (x ∷ xs) h = every_cons (h.at zero) (go xs (record { at = λ i. h.at (suc i) }))

  module _ (beyond : P d) where
    pub every_none : Every P d []
    every_none = record { at = λ i. beyond }

    pub every_flat : (n : ℕ) (g : ℕ → List A) → ((i : ℕ) → i < n → Every P d (g i)) → Every P d (flat n g)
    unfolding flat
    every_flat zero g h = every_none
    every_flat (suc n) g h = every_append (h zero (omega arith)) (every_flat n (λ i. g (suc i)) (λ i l. h (suc i) (omega arith)))

    pub every_tab : (n : ℕ) (f : ℕ → A) → ((i : ℕ) → i < n → P (f i)) → Every P d (tab n f)
    unfolding tab
    every_tab zero f h = every_none
    every_tab (suc n) f h = every_cons (h zero (omega arith)) (every_tab n (λ i. f (suc i)) (λ i l. h (suc i) (omega arith)))
