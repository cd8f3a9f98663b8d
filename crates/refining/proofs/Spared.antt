-- The class that the fresh lists spare: a largest class of layer 0, and of those the one with the least kind.
use mathlib.Core.Path.{◌≡◌, refl, sym, ap₂, ◌∙◌}
use mathlib.Core.Logic.{◌↔◌, ◌⊎◌, inl, inr, ⊎_elim}
use mathlib.Core.Bool.{Bool, true, false, not, ◌&&◌, ◌||◌, true≢false, or-true}
use Prim.Native.Nat.{ℕ, zero, suc, pred, ◌≤◌, ◌<◌}
use native.Mathlib.Omega.{arith}
use native.Mathlib.Decide.{ℕ_discrete, dec_lt, dec_le}
use borrow.Author.Tests.{eq-eqb, eqb-true, lt-ltb, ltb-true, le-leb, leb-true}
use lib.Dec.{eqb, ltb, leb}
use Rattle.counting.specs.Lists.{at}
use Rattle.counting.specs.Counts.{all, count}
use Rattle.counting.proofs.Tabs.{tab-at}
use Rattle.counting.proofs.Leasts.{IsLeast, least_is}
use Rattle.counting.proofs.Tallies.{and-true, all_iff}
use Rattle.automaton.specs.Machine.{Machine, Lawful}
use Rattle.automaton.specs.Layers.{layer}
use Rattle.automaton.proofs.Alikes.{layer_le, layer-name, layer_zero}
use Rattle.refining.specs.Fresh.{class_sizes, before, spared_of}

-- how many states have the name c in layer 0
unfoldable pub members : Machine → ℕ → ℕ
members M c = count M.size (λ x. eqb (at (layer M 0) x) c)

-- c is before d: its size is larger, or as large with a kind not greater
abbrev pub Prior : (ℕ → ℕ) → (ℕ → ℕ) → ℕ → ℕ → Type 0
Prior size kind c d = (size d < size c) ⊎ ((size d ≡ size c) × (kind c ≤ kind d))

module _ (size kind : ℕ → ℕ) where
  prior_total : (c d : ℕ) → (Prior size kind c d) ⊎ (Prior size kind d c)
  prior_total c d = by (dec_lt (size d) (size c)) (dec_lt (size c) (size d)) (dec_le (kind c) (kind d))
    where
      by : Dec (size d < size c) → Dec (size c < size d) → Dec (kind c ≤ kind d) → (Prior size kind c d) ⊎ (Prior size kind d c)
      by (yes l) v w = inl (inl l)
      by (no u) (yes l) w = inr (inl l)
      by (no u) (no v) (yes l) = inl (inr (omega arith))
      by (no u) (no v) (no w) = inr (inr (omega arith))

  prior_over : (c d e : ℕ) → Prior size kind c d → Prior size kind d e → Prior size kind c e
  prior_over c d e (inl l) (inl m) = inl (omega arith)
  prior_over c d e (inl l) (inr m) = inl (omega arith)
  prior_over c d e (inr l) (inl m) = inl (omega arith)
  prior_over c d e (inr l) (inr m) = inr (omega arith)

  -- of the numbers up to j one is before all
  first : (j : ℕ) → (c : ℕ) × (c ≤ j) × ((d : ℕ) → d ≤ j → Prior size kind c d)
  first zero = (0, omega arith, λ d l. let e : d ≡ 0 = omega arith in rw e (inr (omega arith)))
  first (suc j) =
      let (c, k, h) = first j in
      ⊎_elim
      (λ p. (c, omega arith, λ d l. elim (ℕ_discrete d (suc j)) [ yes e ↦ rw e p | no u ↦ h d (omega arith) ]))
      (λ (p : Prior size kind (suc j) c). (suc j, omega arith, λ d l. elim (ℕ_discrete d (suc j)) [ yes e ↦ rw e (inr (omega arith)) | no u ↦ prior_over (suc j) c d p (h d (omega arith)) ]))
      (prior_total c (suc j))

implied : (a b : Bool) → ((not a || b) ≡ true) ↔ (a ≡ true → b ≡ true)
implied true b = ((λ e f. e), (λ h. h refl))
implied false b = ((λ e f. absurd (true≢false (sym f))), (λ h. refl))

prior_iff : (s t a b : ℕ) → ((ltb s t || eqb s t && leb a b) ≡ true) ↔ ((s < t) ⊎ ((s ≡ t) × (a ≤ b)))
prior_iff s t a b = (from (ltb s t) refl, ⊎_elim (λ l. rw (lt-ltb s t l)) (λ h. rw (eq-eqb s t h.0, le-leb a b h.1) (or-true (ltb s t))))
  where
    from : (c : Bool) → ltb s t ≡ c → (c || eqb s t && leb a b) ≡ true → (s < t) ⊎ ((s ≡ t) × (a ≤ b))
    from true e f = inl (ltb-true s t e)
    from false e f =
        let (u, v) = and-true (eqb s t) (leb a b) f in
        inr (eqb-true s t u, leb-true a b v)

-- The name c is spared.
pub record Spares (M : Machine) (c : ℕ) : Type 0 where
  pub within : c < M.size
  pub named : at (layer M 0) c ≡ c
  pub first : (d : ℕ) → d < M.size → at (layer M 0) d ≡ d → Prior (members M) M.kind c d

module _ (M : Machine) (lawful : Lawful M) where
  abbrev test : ℕ → Bool
  test c = eqb (at (layer M 0) c) c && all M.size (λ d. not (eqb (at (layer M 0) d) d) || before M (class_sizes M.size (layer M 0)) c d)

  sizes_at : (c : ℕ) → c < M.size → at (class_sizes M.size (layer M 0)) c ≡ members M c
  unfolding class_sizes members
  sizes_at c l = tab-at M.size _ 0 c l

  before_iff : (c d : ℕ) → c < M.size → d < M.size → (before M (class_sizes M.size (layer M 0)) c d ≡ true) ↔ Prior (members M) M.kind c d
  unfolding before
  before_iff c d l m = rw (sizes_at c l, sizes_at d m) (prior_iff _ _ _ _)

  test_iff : (c : ℕ) → c < M.size → (test c ≡ true) ↔ Spares M c
  test_iff c l = (
    (λ e.
        let (u, v) = and-true (eqb (at (layer M 0) c) c) _ e in
        record { within = l; named = eqb-true _ _ u; first = λ d m f. (before_iff c d l m).0 ((implied _ _).0 ((all_iff M.size _).0 v d m) (eq-eqb _ _ f)) }),
    (λ s. ap₂ ◌&&◌ (eq-eqb _ _ s.named) ((all_iff M.size _).1 (λ d m. (implied _ _).1 (λ e. (before_iff c d l m).1 (s.first d m (eqb-true _ _ e)))))),
  )

  some_spares : (c : ℕ) × Spares M c
  some_spares =
      let (x, k, h) = first (λ x. members M (at (layer M 0) x)) M.kind (pred M.size) in
      let z : 0 < M.size = lawful.some_state in
      let l : x < M.size = omega arith in
      let w : at (layer M 0) x < M.size = omega (arith, layer_le M 0 x l) in
      let e : M.kind (at (layer M 0) x) ≡ M.kind x = (layer_zero M (at (layer M 0) x) x w l).0 (layer-name M 0 x l) in
      (at (layer M 0) x, record { within = w; named = layer-name M 0 x l; first = λ d m f. rw e (rw f at (h d (omega arith))) })

  pub spared_is : Spares M (spared_of M (layer M 0) (class_sizes M.size (layer M 0)))
  unfolding spared_of
  spared_is = by (dec_lt i M.size)
    where
      i : ℕ
      i = spared_of M (layer M 0) (class_sizes M.size (layer M 0))

      is : IsLeast M.size test i
      is = least_is M.size test

      by : Dec (i < M.size) → Spares M i
      by (yes l) = (test_iff i l).0 (is.holds l)
      by (no u) =
          let (c, s) = some_spares in
          let l : c < M.size = s.within in
          absurd (true≢false (sym ((test_iff c l).1 s) ∙ is.before c (omega arith)))
