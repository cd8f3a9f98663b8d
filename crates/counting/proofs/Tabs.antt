-- Laws of `tab` and `flat`: lengths, what stands at a place, a list as the tab of its elements.
use mathlib.Core.Path.{◌≡◌, refl, sym, ap, ap₂, ◌∙◌}
use mathlib.Core.List.{List, [], ◌∷◌, ◌++◌, append_assoc, append-nil}
use Prim.Native.Nat.{ℕ, zero, suc, ◌+◌, ◌*◌, ◌≤◌, ◌<◌}
use native.Mathlib.Nat.{zero-add, add-zero, add-suc, suc-add, suc-mul, zero-mul, add_comm, le_of_suc-le-suc, not-suc-le-zero}
use native.Mathlib.Numerals.{add-one}
use native.Mathlib.Omega.{arith}
use lib.ListN.{length, get_or, take, drop, length-append, get_or-append}
use lib.Seq.{take-suc, drop-cons, get_or-append-add}
use Rattle.counting.specs.Lists.{tab, flat}

pub tab-length {ℓ} : {A : Type ℓ} (n : ℕ) (f : ℕ → A) → length (tab n f) ≡ n
unfolding tab
tab-length zero f = refl
tab-length (suc n) f = ap suc (tab-length n (λ i. f (suc i)))

pub tab-at {ℓ} : {A : Type ℓ} (n : ℕ) (f : ℕ → A) (d : A) (q : ℕ) → q < n → get_or (tab n f) q d ≡ f q
unfolding tab
tab-at zero f d q h = absurd (not-suc-le-zero h)
tab-at (suc n) f d zero h = refl
tab-at (suc n) f d (suc q) h = tab-at n (λ i. f (suc i)) d q (le_of_suc-le-suc h)

pub tab_cong {ℓ} : {A : Type ℓ} (n : ℕ) {f g : ℕ → A} → ((i : ℕ) → i < n → f i ≡ g i) → tab n f ≡ tab n g
unfolding tab
tab_cong zero h = refl
tab_cong (suc n) h = ap₂ ◌∷◌ (h zero (omega arith)) (tab_cong n (λ i l. h (suc i) (omega arith)))

pub flat_cong {ℓ} : {A : Type ℓ} (n : ℕ) {f g : ℕ → List A} → ((i : ℕ) → i < n → f i ≡ g i) → flat n f ≡ flat n g
unfolding flat
flat_cong zero h = refl
flat_cong (suc n) h = ap₂ ◌++◌ (h zero (omega arith)) (flat_cong n (λ i l. h (suc i) (omega arith)))

pub tab_add {ℓ} : {A : Type ℓ} (n m : ℕ) (f : ℕ → A) → tab (n + m) f ≡ tab n f ++ tab m (λ i. f (n + i))
unfolding tab
tab_add zero m f = rw zero-add (tab_cong m (λ i l. ap f (sym (zero-add i))))
tab_add (suc n) m f =
    rw suc-add
    (ap (λ (l : List _). f zero ∷ l)
    (tab_add n m (λ i. f (suc i)) ∙ ap (λ (l : List _). tab n (λ i. f (suc i)) ++ l) (tab_cong m (λ i l. ap f (sym (suc-add n i))))))

-- one element more
pub tab_more {ℓ} : {A : Type ℓ} (n : ℕ) (f : ℕ → A) → tab (n + 1) f ≡ tab n f ++ f n ∷ []
unfolding tab
tab_more n f = tab_add n 1 f ∙ ap (λ (i : ℕ). tab n f ++ f i ∷ []) (add-zero n)

pub take_more {ℓ} : {A : Type ℓ} (xs : List A) (i : ℕ) (d : A) → i < length xs → take (i + 1) xs ≡ take i xs ++ get_or xs i d ∷ []
take_more xs i d l = ap (λ (j : ℕ). take j xs) (add-one i) ∙ take-suc xs i d l

-- one list more
flat_suc {ℓ} : {A : Type ℓ} (n : ℕ) (g : ℕ → List A) → flat (suc n) g ≡ flat n g ++ g n
unfolding flat
flat_suc zero g = append-nil (g zero)
flat_suc (suc n) g = ap (λ (s : List _). g zero ++ s) (flat_suc n (λ i. g (suc i))) ∙ sym (append_assoc (g zero) _ _)

pub flat_more {ℓ} : {A : Type ℓ} (n : ℕ) (g : ℕ → List A) → flat (n + 1) g ≡ flat n g ++ g n
flat_more n g = rw (add-one n) (flat_suc n g)

-- a list is the tab of its elements
pub tab_list {ℓ} : {A : Type ℓ} (d : A) (xs : List A) → tab (length xs) (λ i. get_or xs i d) ≡ xs
unfolding tab
tab_list d [] = refl
tab_list d (x ∷ xs) = ap (λ (l : List _). x ∷ l) (tab_list d xs)

-- what is left of a list from a place on, as its next n elements and the rest
pub drop-tab {ℓ} : {A : Type ℓ} (d : A) (n i : ℕ) (xs : List A) → i + n ≤ length xs → drop i xs ≡ tab n (λ j. get_or xs (i + j) d) ++ drop (i + n) xs
unfolding tab
drop-tab d zero i xs h = rw add-zero
drop-tab d (suc n) i xs h =
    drop-cons xs i d (omega arith)
    ∙ ap₂ ◌∷◌ (ap (λ (j : ℕ). get_or xs j d) (sym (add-zero i)))
    (drop-tab d n (suc i) xs (omega arith)
    ∙ ap₂ ◌++◌ (tab_cong n (λ j l. ap (λ (m : ℕ). get_or xs m d) (suc-add i j ∙ sym (add-suc i j)))) (ap (λ (m : ℕ). drop m xs) (suc-add i n ∙ sym (add-suc i n))))

-- lists of one width c, one behind the other, are one tab
pub flat-tab {ℓ} : {A : Type ℓ} (c n : ℕ) (g : ℕ → List A) (f : ℕ → A) → ((i : ℕ) → i < n → g i ≡ tab c (λ j. f (i * c + j))) → flat n g ≡ tab (n * c) f
unfolding tab flat
flat-tab c zero g f h = rw zero-mul
flat-tab c (suc n) g f h =
    rw (suc-mul, add_comm (n * c) c)
    (ap₂ ◌++◌
    (h zero (omega arith) ∙ tab_cong c (λ j l. ap f (rw zero-mul (zero-add j))))
    (flat-tab c n (λ i. g (suc i)) (λ j. f (c + j)) (λ i l. h (suc i) (omega arith) ∙ tab_cong c (λ j m. ap f (rw suc-mul (omega arith)))))
    ∙ sym (tab_add c (n * c) f))

-- lists of one width c, one behind the other: their length, and the element j of the list i
module _ {ℓ} {A : Type ℓ} (c : ℕ) where
  pub flat-length : (n : ℕ) (g : ℕ → List A) → ((i : ℕ) → length (g i) ≡ c) → length (flat n g) ≡ n * c
  unfolding flat
  flat-length zero g h = sym (zero-mul c)
  flat-length (suc n) g h =
      rw (suc-mul, length-append) (omega (arith, h zero, flat-length n (λ i. g (suc i)) (λ i. h (suc i))))

  pub flat-at : (n : ℕ) (g : ℕ → List A) (d : A) → ((i : ℕ) → length (g i) ≡ c) → (i j : ℕ) → i < n → j < c → get_or (flat n g) (i * c + j) d ≡ get_or (g i) j d
  unfolding flat
  flat-at zero g d h i j l m = absurd (not-suc-le-zero l)
  flat-at (suc n) g d h zero j l m = rw (zero-mul, zero-add) (get_or-append (g zero) _ d j (rw (h zero) m))
  flat-at (suc n) g d h (suc i) j l m =
      ap (λ (x : ℕ). get_or (flat (suc n) g) x d) (rw suc-mul (omega (arith, h zero)))
      ∙ get_or-append-add (g zero) _ (i * c + j) d
      ∙ flat-at n (λ i. g (suc i)) d (λ i. h (suc i)) i j (le_of_suc-le-suc l) m
