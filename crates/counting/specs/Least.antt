-- The least number below a bound that passes a test.
use Rattle.std.specs.Prelude.{◌≡◌, ℕ, zero, suc, ◌<◌, Bool, true, false, Option, MatchOption}

-- one of two, by a test
unfoldable pub pick {ℓ} : {A : Type ℓ} → Bool → A → A → A
pick true a b = a
pick false a b = b

-- the least i below n with P i, or n where there is none
unfoldable pub least : ℕ → (ℕ → Bool) → ℕ
least zero P = zero
least (suc n) P =
    let later = suc (least n (λ i. P (suc i))) in
    pick (P zero) zero later

-- the first i below n with P i, if there is one
abbrev pub IsFirst : ℕ → (ℕ → Bool) → Option ℕ → Type 0
IsFirst n P r =
    MatchOption r ((i : ℕ) → i < n → P i ≡ false) (λ i. (i < n) × (P i ≡ true) × ((j : ℕ) → j < i → P j ≡ false))

-- the least number that is alike: one name for all that are
unfoldable pub name : (ℕ → ℕ → Bool) → ℕ → ℕ
name same x = least (suc x) (λ y. same y x)
