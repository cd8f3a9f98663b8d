-- A column looked at, one state more: a state that doesn't lead into the class taken, and one that does.
use mathlib.Core.Path.{◌≡◌, sym, ap, ap₂, subst, ◌∙◌}
use mathlib.Core.Logic.{◌≢◌}
use mathlib.Core.Bool.{Bool, true, false, ◌&&◌, and-false}
use mathlib.Core.List.{List}
use Prim.Native.Nat.{ℕ, ◌+◌, ◌≤◌, ◌<◌}
use native.Mathlib.Decide.{ℕ_discrete}
use native.Mathlib.Nat.{not-suc-le-zero}
use native.Mathlib.Numerals.{add-one}
use native.Mathlib.Omega.{arith}
use borrow.Author.Tests.{eq-eqb, ne_eqb}
use lib.Dec.{eqb}
use lib.ListN.{length, set, length-set}
use lib.Seq.{get_or-set_same, get_or-set_other}
use Rattle.counting.specs.Lists.{at}
use Rattle.counting.specs.Least.{pick}
use Rattle.counting.specs.Counts.{count}
use Rattle.counting.proofs.Tallies.{count_most}
use Rattle.automaton.specs.Machine.{Machine}
use Rattle.splitting.specs.Work.{leads_to, Counted}

-- one number more that passes, or that doesn't
pub count_hit : (x : ℕ) (P : ℕ → Bool) → P x ≡ true → count (x + 1) P ≡ count x P + 1
unfolding count pick
count_hit x P e = ap (λ (y : ℕ). count y P) (add-one x) ∙ ap (λ (t : Bool). count x P + pick t 1 0) e

pub count_miss : (x : ℕ) (P : ℕ → Bool) → P x ≡ false → count (x + 1) P ≡ count x P
unfolding count pick
count_miss x P e =
    let h : count (x + 1) P ≡ count x P + 0 = ap (λ (y : ℕ). count y P) (add-one x) ∙ ap (λ (t : Bool). count x P + pick t 1 0) e in
    omega (arith, h)

-- a count that stands at r, and one state more that counts there only
pub count_more : (counts : List ℕ) (P : ℕ → Bool) (x r c : ℕ) → r < length counts → (c ≡ r → P x ≡ true) → (c ≢ r → P x ≡ false) → at counts c ≡ count x P
    → at (set counts r (at counts r + 1)) c ≡ count (x + 1) P
count_more counts P x r c room hit miss e = elim (ℕ_discrete c r) [
  | yes f ↦
      ap (at (set counts r (at counts r + 1))) f
      ∙ get_or-set_same counts r (at counts r + 1) 0 room
      ∙ ap (λ (y : ℕ). at counts y + 1) (sym f)
      ∙ ap (λ (y : ℕ). y + 1) e
      ∙ sym (count_hit x P (hit f))
  | no u ↦ get_or-set_other counts r c (at counts r + 1) 0 u ∙ e ∙ sym (count_miss x P (miss u))
]

module _ (M : Machine) (class : List ℕ) (q a : ℕ) where
  -- the test whose states a class counts
  abbrev of_class : ℕ → ℕ → Bool
  of_class c y = eqb (at class y) c && leads_to M class q a y

  pub counted_none : (led touch : List ℕ) → (length led ≡ M.size) × (length touch ≡ M.size) → ((c : ℕ) → c < M.size → at led c ≡ 0) → Counted M class q a 0 led touch 0
  unfolding count
  counted_none led touch room none = record {
    room = room;
    looks = omega arith;
    leds = none;
    touched = λ c l u. absurd (u (none c l));
    within = λ j l. absurd (not-suc-le-zero l);
  }

  module _ (x looked : ℕ) (led touch : List ℕ) (d : Counted M class q a x led touch looked) where
    pub counted_miss : leads_to M class q a x ≡ false → Counted M class q a (x + 1) led touch looked
    counted_miss e = record {
      room = d.room;
      looks = d.looks ∙ sym (count_miss x (leads_to M class q a) e);
      leds = λ c l. d.leds c l ∙ sym (count_miss x (of_class c) (ap (λ (b : Bool). eqb (at class x) c && b) e ∙ and-false (eqb (at class x) c)));
      touched = d.touched;
      within = d.within;
    }

    -- no more were looked at than there are states before, and of no class
    pub looked_most : looked ≤ x
    looked_most = omega (arith, d.looks, count_most x (leads_to M class q a))

    pub led_most : (c : ℕ) → c < M.size → at led c ≤ x
    led_most c l = omega (arith, d.leds c l, count_most x (of_class c))

    module _ (c : ℕ) (own : c ≡ at class x) (l : x < M.size) (m : c < M.size) where
      abbrev led' : List ℕ
      led' = set led c (at led c + 1)

      abbrev touch' : List ℕ
      touch' = set touch looked c

      touched_own : at touch' looked ≡ c
      touched_own = get_or-set_same touch looked c 0 (omega (arith, d.room.1, looked_most))

      touched_other : (j : ℕ) → j < looked → at touch' j ≡ at touch j
      touched_other j k = get_or-set_other touch looked j c 0 (omega arith)

      pub counted_hit : leads_to M class q a x ≡ true → Counted M class q a (x + 1) led' touch' (looked + 1)
      counted_hit e = record {
        room = (length-set led c (at led c + 1) ∙ d.room.0, length-set touch looked c ∙ d.room.1);
        looks = ap (λ (y : ℕ). y + 1) d.looks ∙ sym (count_hit x (leads_to M class q a) e);
        leds = λ k h.
            count_more led (of_class k) x c k (omega (arith, d.room.0))
            (λ f. ap₂ ◌&&◌ (eq-eqb (at class x) k (sym own ∙ sym f)) e)
            (λ u. ap (λ (t : Bool). t && leads_to M class q a x) (ne_eqb (at class x) k (λ f. u (sym f ∙ sym own))))
            (d.leds k h);
        touched = touched;
        within = λ j k. elim (ℕ_discrete j looked) [
          | yes h ↦ subst (λ (y : ℕ). at touch' y < M.size) (sym h) (omega (arith, touched_own))
          | no u ↦ omega (arith, touched_other j (omega arith), d.within j (omega arith))
        ];
      }
        where
          touched : (k : ℕ) → k < M.size → at led' k ≢ 0 → (j : ℕ) × (j < looked + 1) × (at touch' j ≡ k)
          touched k h z = elim (ℕ_discrete k c) [
            | yes f ↦ (looked, omega arith, touched_own ∙ sym f)
            | no u ↦
                (let (j, i, f) = d.touched k h (λ y. z (get_or-set_other led c k (at led c + 1) 0 u ∙ y)) in
                (j, omega arith, touched_other j i ∙ f))
          ]
