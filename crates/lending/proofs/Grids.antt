-- Numbers of two bytes in n rows of k, one behind the other: their bytes' count, the number of a row and column, and any bytes as such rows.
-- Rests on the laws of `flat`.
use mathlib.Core.Path.{◌≡◌, refl, sym, ap, ap₂, ◌∙◌}
use mathlib.Core.List.{List, [], ◌∷◌}
use Prim.Native.Nat.{ℕ, ◌+◌, ◌*◌, ◌<◌}
use native.Mathlib.Nat.{add-zero, mul_assoc, mul_comm}
use native.Mathlib.Omega.{arith}
use lib.Arith.{digits_lt}
use lib.ListN.{length, get_or}
use Rattle.counting.specs.Lists.{tab, flat}
use Rattle.counting.proofs.Tabs.{flat-length, flat-at, flat-tab}
use Rattle.lending.specs.Pairs.{pair_at, pair}
use Rattle.lending.proofs.Halves.{pair_read, pair-written}

-- n rows of k numbers, two bytes each
abbrev pub grid : ℕ → ℕ → (ℕ → ℕ → ℕ) → List ℕ
grid n k f = flat n (λ q. flat k (λ a. pair (f q a)))

twice : (n k : ℕ) → n * (k * 2) ≡ 2 * (n * k)
twice n k = sym (mul_assoc n k 2) ∙ mul_comm (n * k) 2

module _ (n k : ℕ) where
  module _ (f : ℕ → ℕ → ℕ) where
    row_length : (q : ℕ) → length (flat k (λ a. pair (f q a))) ≡ k * 2
    unfolding pair
    row_length q = flat-length 2 k _ (λ a. refl)

    pub grid_length : length (grid n k f) ≡ 2 * (n * k)
    grid_length = flat-length (k * 2) n _ row_length ∙ twice n k

    byte : (q a b : ℕ) → q < n → a < k → b < 2 → get_or (grid n k f) (2 * (q * k + a) + b) 0 ≡ get_or (pair (f q a)) b 0
    unfolding pair
    byte q a b h l m =
        ap (λ (j : ℕ). get_or (grid n k f) j 0) (omega (arith, twice q k))
        ∙ flat-at (k * 2) n _ 0 row_length q (a * 2 + b) h (digits_lt l m)
        ∙ flat-at 2 k _ 0 (λ a. refl) a b l m

    pub grid_at : (q a : ℕ) → q < n → a < k → pair_at (grid n k f) (2 * (q * k + a)) ≡ f q a
    grid_at q a h l =
        pair_read (f q a) (grid n k f) _
        (ap (λ (j : ℕ). get_or (grid n k f) j 0) (sym (add-zero _)) ∙ byte q a 0 h l (omega arith))
        (byte q a 1 h l (omega arith))

  pub grid_written : (s : List ℕ) (p : ℕ) → ((i : ℕ) → get_or s i 0 < 256) → grid n k (λ q a. pair_at s (p + 2 * (q * k + a))) ≡ tab (2 * (n * k)) (λ j. get_or s (p + j) 0)
  unfolding tab
  grid_written s p bytes =
      flat-tab (k * 2) n _ f (λ q h. flat-tab 2 k _ (λ j. f (q * (k * 2) + j)) (λ a l. pair-written s _ (bytes _) ∙ ap₂ (λ (i j : ℕ). get_or s i 0 ∷ get_or s j 0 ∷ []) (omega (arith, twice q k)) (omega (arith, twice q k))))
      ∙ ap (λ (m : ℕ). tab m f) (twice n k)
    where
      f : ℕ → ℕ
      f j = get_or s (p + j) 0
