-- The counts of leading states looked through and set to 0, one touched class more.
use mathlib.Core.Path.{◌≡◌, refl, sym, ap, ◌∙◌}
use mathlib.Core.Logic.{◌≢◌}
use mathlib.Core.Bool.{Bool, true, false, not, ◌&&◌, ◌||◌, true≢false}
use mathlib.Core.List.{List}
use Prim.Native.Nat.{ℕ, ◌+◌, ◌<◌}
use native.Mathlib.Decide.{ℕ_discrete}
use native.Mathlib.Omega.{arith}
use borrow.Author.Tests.{eq-eqb, ne_eqb}
use lib.Dec.{eqb}
use lib.ListN.{length, set, length-set}
use lib.Seq.{get_or-set_same, get_or-set_other}
use Rattle.counting.specs.Lists.{at}

-- of this class some states lead into the class taken, and others don't
abbrev pub cut_in : List ℕ → List ℕ → ℕ → Bool
cut_in sizes leds c = not (eqb (at leds c) 0) && not (eqb (at leds c) (at sizes c))

pub cut_none : (sizes leds : List ℕ) (c : ℕ) → at leds c ≡ 0 → cut_in sizes leds c ≡ false
cut_none sizes leds c e = ap (λ (t : Bool). not t && not (eqb (at leds c) (at sizes c))) (eq-eqb (at leds c) 0 e)

pub cut_some : (sizes leds : List ℕ) (c : ℕ) → at leds c ≢ 0 → cut_in sizes leds c ≡ not (eqb (at leds c) (at sizes c))
cut_some sizes leds c u = ap (λ (t : Bool). not t && not (eqb (at leds c) (at sizes c))) (ne_eqb (at leds c) 0 u)

-- The first j touched classes looked through. A count is 0 or as before; a class that is cut and whose count is 0 was found.
pub record Unleading (j : ℕ) (sizes touched before after : List ℕ) (split : Bool) : Type 0 where
  pub long : length after ≡ length before
  pub kept : (c : ℕ) → at after c ≢ 0 → at after c ≡ at before c
  pub cleared : (i : ℕ) → i < j → at after (at touched i) ≡ 0
  pub sound : split ≡ true → (c : ℕ) × (c < length sizes) × (cut_in sizes before c ≡ true)
  pub seen : (c : ℕ) → cut_in sizes before c ≡ true → at after c ≡ 0 → split ≡ true

module _ (sizes touched before : List ℕ) where
  module _ (j c : ℕ) (after : List ℕ) (split cut : Bool) (l : c < length sizes) (room : c < length after) (own : c ≡ at touched j) (is : cut ≡ cut_in sizes after c)
      (d : Unleading j sizes touched before after split) where
    abbrev next : List ℕ
    next = set after c 0

    other : (i : ℕ) → i ≢ c → at next i ≡ at after i
    other i u = get_or-set_other after c i 0 0 u

    led_own : at next c ≡ 0
    led_own = get_or-set_same after c 0 0 room

    -- a count that is not 0 yet is cut now exactly if it was before
    cut_as : at after c ≢ 0 → cut_in sizes after c ≡ cut_in sizes before c
    cut_as u = ap (λ (k : ℕ). not (eqb k 0) && not (eqb k (at sizes c))) (d.kept c u)

    either_left : (s t : Bool) → s ≡ true → (s || t) ≡ true
    either_left true t e = refl
    either_left false t e = absurd (true≢false (sym e))

    either_right : (s t : Bool) → t ≡ true → (s || t) ≡ true
    either_right true t e = refl
    either_right false t e = e

    pub unleading_more : Unleading (j + 1) sizes touched before next (split || cut)
    unleading_more = record {
      long = length-set after c 0 ∙ d.long;
      kept = kept;
      cleared = cleared;
      sound = sound split refl;
      seen = seen;
    }
      where
        kept : (k : ℕ) → at next k ≢ 0 → at next k ≡ at before k
        kept k z = elim (ℕ_discrete k c) [
          | yes e ↦ absurd (z (ap (at next) e ∙ led_own))
          | no u ↦ other k u ∙ d.kept k (λ y. z (other k u ∙ y))
        ]

        cleared : (i : ℕ) → i < j + 1 → at next (at touched i) ≡ 0
        cleared i h = elim (ℕ_discrete (at touched i) c) [
          | yes e ↦ ap (at next) e ∙ led_own
          | no u ↦ elim (ℕ_discrete i j) [
            | yes f ↦ absurd (u (ap (at touched) f ∙ sym own))
            | no v ↦ other (at touched i) u ∙ d.cleared i (omega arith)
          ]
        ]

        sound : (s : Bool) → split ≡ s → (s || cut) ≡ true → (k : ℕ) × (k < length sizes) × (cut_in sizes before k ≡ true)
        sound true f e = d.sound f
        sound false f e = elim (ℕ_discrete (at after c) 0) [
          | yes z ↦ absurd (true≢false (sym e ∙ is ∙ cut_none sizes after c z))
          | no u ↦ (c, l, sym (cut_as u) ∙ sym is ∙ e)
        ]

        seen : (k : ℕ) → cut_in sizes before k ≡ true → at next k ≡ 0 → (split || cut) ≡ true
        seen k e z = elim (ℕ_discrete k c) [
          | yes f ↦ elim (ℕ_discrete (at after c) 0) [
            | yes g ↦ either_left split cut (d.seen k e (ap (at after) f ∙ g))
            | no u ↦ either_right split cut (is ∙ cut_as u ∙ ap (cut_in sizes before) (sym f) ∙ e)
          ]
          | no u ↦ either_left split cut (d.seen k e (sym (other k u) ∙ z))
        ]
