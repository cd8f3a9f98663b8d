-- One take at each state, from well_formed lists of which some class waits: the pair taken, who leaves, the new names and the new pending.
use mathlib.Core.Path.{◌≡◌, refl, sym, ap, ap₂, ◌∙◌}
use mathlib.Core.Logic.{◌≢◌}
use mathlib.Core.Bool.{Bool, true, false, not, ◌&&◌, beq}
use Prim.Native.Nat.{ℕ, suc, pred, ◌≤◌, ◌<◌}
use native.Mathlib.Nat.{suc-pred-eq_of_ne-zero}
use native.Mathlib.Decide.{ℕ_discrete, dec_lt}
use native.Mathlib.Omega.{arith}
use borrow.Author.Tests.{eq-eqb, ne_eqb, eqb-true, eqb-false, not-true}
use lib.Dec.{eqb, leb}
use lib.ListN.{get_or}
use Rattle.counting.specs.Lists.{at}
use Rattle.counting.specs.Least.{pick, least}
use Rattle.counting.specs.Counts.{count}
use Rattle.counting.proofs.Tabs.{tab-at}
use Rattle.counting.proofs.Leasts.{IsLeast, least_is, least_cong}
use Rattle.counting.proofs.Tallies.{and-true, any_iff, count_cong, count_some, count_none}
use Rattle.automaton.specs.Machine.{Machine, Lawful}
use Rattle.refining.specs.Lists.{Split, WellFormed, waiting}
use Rattle.refining.specs.Take.{taken_class, taken_sign, hits, leaves, split_class, kept_sizes, gone_sizes, lowered, split_pending, take_by, due_hits, take, entries}

-- the class of a state
abbrev pub class_of : Split → ℕ → ℕ
class_of s x = at s.class x

-- its next state under the sign taken lies in the class taken
unfoldable pub hit : Machine → Split → ℕ → Bool
hit M s x = eqb (class_of s (M.next x (taken_sign M.size s))) (taken_class M.size s)

-- it is on the other side than its class's least state
unfoldable pub goes : Machine → Split → ℕ → Bool
goes M s x = not (beq (hit M s x) (hit M s (class_of s x)))

-- how many of a class stay, and how many go
unfoldable pub kept : Machine → Split → ℕ → ℕ
kept M s p = count M.size (λ x. eqb (class_of s x) p && not (goes M s x))

unfoldable pub gone : Machine → Split → ℕ → ℕ
gone M s p = count M.size (λ x. eqb (class_of s x) p && goes M s x)

-- pending, lowered by 1 at the class taken
unfoldable pub old : Machine → Split → ℕ → ℕ
old M s x = pick (eqb x (taken_class M.size s)) (pred (at s.pending x)) (at s.pending x)

-- The new name of a state that goes: the least of its class that goes.
pub record NewName (M : Machine) (s : Split) (x r : ℕ) : Type 0 where
  pub below : r ≤ x
  pub class : class_of s r ≡ class_of s x
  pub going : goes M s r ≡ true
  pub least : (y : ℕ) → y < M.size → class_of s y ≡ class_of s x → goes M s y ≡ true → r ≤ y

module _ (M : Machine) (lawful : Lawful M) (s : Split) (formed : WellFormed M.size M.signs s) (w : waiting M.size s ≡ true) where
  abbrev waits : ℕ → Bool
  waits q = not (eqb (at s.pending q) 0)

  taken : IsLeast M.size waits (taken_class M.size s)
  unfolding taken_class
  taken = least_is M.size waits

  pub taken_in : taken_class M.size s < M.size
  unfolding waiting
  taken_in =
      let (q, l, h) = (any_iff M.size waits).0 w in
      elim (dec_lt (taken_class M.size s) M.size) [
        | yes m ↦ m
        | no u ↦ let z : ◌≡◌ {A = ℕ} 0 1 = cc (taken.before q (omega arith)) in omega arith
      ]

  pub taken_pending : at s.pending (taken_class M.size s) ≡ suc (taken_sign M.size s)
  unfolding taken_sign
  taken_pending = sym (suc-pred-eq_of_ne-zero (eqb-false _ _ (not-true _ (taken.holds taken_in))))

  pub taken-sign : taken_sign M.size s < M.signs
  taken-sign = omega (arith, taken_pending, formed.few _ taken_in)

  pub taken_name : class_of s (taken_class M.size s) ≡ taken_class M.size s
  taken_name =
      elim (ℕ_discrete (class_of s (taken_class M.size s)) (taken_class M.size s)) [ yes e ↦ e | no u ↦ omega (arith, taken_pending, formed.none _ taken_in u) ]

  hit_at : (x : ℕ) → x < M.size → get_or (due_hits M s) x false ≡ hit M s x
  unfolding due_hits hits hit
  hit_at x l = tab-at M.size _ false x l

  pub entries-hits : entries M s ≡ count M.size (hit M s)
  unfolding entries
  entries-hits = count_cong M.size _ _ hit_at

  class-in : (x : ℕ) → x < M.size → class_of s x < M.size
  class-in x l = omega (arith, formed.low x l)

  leaves_at : (x : ℕ) → x < M.size → leaves s.class (due_hits M s) x ≡ goes M s x
  unfolding leaves goes
  leaves_at x l = rw (hit_at x l, hit_at (class_of s x) (class-in x l))

  -- a class's name stays
  pub name_stays : (x : ℕ) → x < M.size → goes M s (class_of s x) ≡ false
  unfolding goes
  name_stays x l = rw (formed.named x l) (elim (hit M s (class_of s x)) as (λ b. not (beq b b) ≡ false) [ true ↦ refl | false ↦ refl ])

  abbrev goer : ℕ → ℕ → Bool
  goer p y = eqb (class_of s y) p && goes M s y

  pub class-at : (x : ℕ) → x < M.size → class_of (take M s) x ≡ pick (goes M s x) (least M.size (goer (class_of s x))) (class_of s x)
  unfolding take take_by split_class
  class-at x l =
      tab-at M.size _ 0 x l
      ∙ ap₂ (λ (b : Bool) (r : ℕ). pick b r (class_of s x)) (leaves_at x l)
      (least_cong M.size _ _ (λ y m. ap (λ (b : Bool). eqb (class_of s y) (class_of s x) && b) (leaves_at y m)))

  -- a class of which a state goes, and one that is no class
  pub some_gone : (x : ℕ) → x < M.size → goes M s x ≡ true → gone M s (class_of s x) ≢ 0
  unfolding gone
  some_gone x l g z =
      omega (arith, count_some M.size (λ y. eqb (class_of s y) (class_of s x) && goes M s y) x l (ap₂ ◌&&◌ (eq-eqb (class_of s x) (class_of s x) refl) g))

  pub none_gone : (x : ℕ) → class_of s x ≢ x → gone M s x ≡ 0
  unfolding gone
  none_gone x u =
      count_none M.size _ (λ y m. ap (λ (b : Bool). b && goes M s y) (ne_eqb (class_of s y) x (λ h. u (ap (class_of s) (sym h) ∙ formed.named y m ∙ h))))

  pub class_stays : (x : ℕ) → x < M.size → goes M s x ≡ false → class_of (take M s) x ≡ class_of s x
  unfolding pick
  class_stays x l e = class-at x l ∙ rw e

  pub class_goes : (x : ℕ) → x < M.size → goes M s x ≡ true → NewName M s x (class_of (take M s) x)
  unfolding pick
  class_goes x l e =
      rw (class-at x l, e) (record { below = first x l refl e; class = eqb-true _ _ here.0; going = here.1; least = first })
    where
      r : ℕ
      r = least M.size (goer (class_of s x))

      is : IsLeast M.size (goer (class_of s x)) r
      is = least_is M.size (goer (class_of s x))

      first : (y : ℕ) → y < M.size → class_of s y ≡ class_of s x → goes M s y ≡ true → r ≤ y
      first y m f g = elim (dec_lt y r) [
        | yes k ↦ let z : ◌≡◌ {A = ℕ} 0 1 = cc (is.before y k, ap₂ ◌&&◌ (eq-eqb (class_of s y) (class_of s x) f) g) in omega arith
        | no u ↦ omega arith
      ]

      here : (eqb (class_of s r) (class_of s x) ≡ true) × (goes M s r ≡ true)
      here = and-true _ _ (is.holds (omega (arith, first x l refl e)))

  old_at : (x : ℕ) → x < M.size → at (lowered M.size s.pending (taken_class M.size s)) x ≡ old M s x
  unfolding lowered old
  old_at x l = tab-at M.size _ 0 x l

  kept_at : (x : ℕ) → x < M.size → at (kept_sizes M.size s.class (due_hits M s)) x ≡ kept M s x
  unfolding kept_sizes kept
  kept_at x l =
      tab-at M.size _ 0 x l
      ∙ count_cong M.size _ _ (λ y m. ap (λ (b : Bool). eqb (class_of s y) x && not b) (leaves_at y m))

  gone_at : (x : ℕ) → x < M.size → at (gone_sizes M.size s.class (due_hits M s)) x ≡ gone M s x
  unfolding gone_sizes gone
  gone_at x l =
      tab-at M.size _ 0 x l
      ∙ count_cong M.size _ _ (λ y m. ap (λ (b : Bool). eqb (class_of s y) x && b) (leaves_at y m))

  pending_at : (x : ℕ) → x < M.size
      → at (take M s).pending x
      ≡ pick (eqb (class_of (take M s) x) x && not (eqb (class_of s x) x))
      (pick (leb (kept M s (class_of s x)) (gone M s (class_of s x))) (old M s (class_of s x)) M.signs)
      (pick (not (eqb (gone M s x) 0) && leb (kept M s x) (gone M s x)) M.signs (old M s x))
  unfolding take take_by split_pending
  pending_at x l =
      let m : class_of s x < M.size = class-in x l in
      tab-at M.size _ 0 x l ∙ rw (kept_at (class_of s x) m, gone_at (class_of s x) m, old_at (class_of s x) m, kept_at x l, gone_at x l, old_at x l)

  -- the pending of a new name
  pub pending_new : (x : ℕ) → x < M.size → class_of (take M s) x ≡ x → class_of s x ≢ x
      → at (take M s).pending x ≡ pick (leb (kept M s (class_of s x)) (gone M s (class_of s x))) (old M s (class_of s x)) M.signs
  unfolding pick
  pending_new x l e u = pending_at x l ∙ rw (eq-eqb (class_of (take M s) x) x e, ne_eqb (class_of s x) x u)

  -- the pending of any other state
  pub pending_old : (x : ℕ) → x < M.size → ((class_of (take M s) x ≡ x) × (class_of s x ≢ x) → ⊥)
      → at (take M s).pending x ≡ pick (not (eqb (gone M s x) 0) && leb (kept M s x) (gone M s x)) M.signs (old M s x)
  unfolding pick
  pending_old x l u = pending_at x l ∙ elim (ℕ_discrete (class_of (take M s) x) x) [
    | no v ↦ rw (ne_eqb (class_of (take M s) x) x v)
    | yes e ↦ elim (ℕ_discrete (class_of s x) x) [
      | yes f ↦ rw (eq-eqb (class_of (take M s) x) x e, eq-eqb (class_of s x) x f)
      | no v ↦ absurd (u (e, v))
    ]
  ]
