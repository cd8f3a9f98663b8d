-- The published take guarantees what a splitting step must: the first pending[q] signs of class q are the waiting ones.
use mathlib.Core.Path.{◌≡◌, refl, sym, ap, ap₂, ◌∙◌}
use mathlib.Core.Logic.{◌≢◌, ◌⊎◌, inl, inr, ⊎_elim, ⊎_swap, ⊎_map}
use mathlib.Core.Bool.{Bool, true, false, not, ◌&&◌, beq, true≢false}
use Prim.Native.Nat.{ℕ, suc, pred, ◌+◌, ◌*◌, ◌≤◌, ◌<◌}
use native.Mathlib.Nat.{le_antisymm}
use native.Mathlib.Omega.{arith}
use borrow.Author.Tests.{lt-ltb, ltb-true, ltb-false, leb-true, leb-false, eq-eqb, ne_eqb, eqb-true, eqb-false}
use lib.Dec.{eqb, ltb, leb}
use Rattle.counting.specs.Lists.{at}
use Rattle.counting.specs.Least.{pick}
use Rattle.counting.proofs.Cases.{by_test}
use Rattle.counting.proofs.Tallies.{and-true, count_mono, count_split}
use Rattle.automaton.specs.Machine.{Machine, Lawful}
use Rattle.refining.specs.Lists.{Split, WellFormed, waiting}
use Rattle.refining.specs.Take.{taken_class, taken_sign, take}
use Rattle.refining.specs.Guarantee.{Guarantees, mates}
use Rattle.refining.proofs.Points.{class_of, hit, goes, kept, gone, old, taken_pending, taken-sign, name_stays, some_gone, class_stays, class_goes, pending_new, pending_old}

-- the first pending[c] signs of class c wait
unfoldable pub waits_in : Split → ℕ → ℕ → Bool
waits_in s c b = ltb b (at s.pending c)

-- what is on the same side of c as another is that other
same_side : (a b c : Bool) → not (beq a c) ≡ not (beq b c) → a ≡ b
same_side a b c e = sym (twice a c) ∙ ap (λ (d : Bool). not (beq d c)) e ∙ twice b c
  where
    twice : (a c : Bool) → not (beq (not (beq a c)) c) ≡ a
    twice true true = refl
    twice true false = refl
    twice false true = refl
    twice false false = refl

module _ (M : Machine) (lawful : Lawful M) (s : Split) (formed : WellFormed M.size M.signs s) (w : waiting M.size s ≡ true) where
  abbrev class : ℕ → ℕ
  class x = class_of s x

  abbrev class' : ℕ → ℕ
  class' x = class_of (take M s) x

  abbrev pending' : ℕ → ℕ
  pending' x = at (take M s).pending x

  abbrev q : ℕ
  q = taken_class M.size s

  abbrev a : ℕ
  a = taken_sign M.size s

  -- the name of a part lies in it
  named : (x : ℕ) → x < M.size → (class' x < M.size) × (class (class' x) ≡ class x) × (goes M s (class' x) ≡ goes M s x)
  named x l =
      by_test (goes M s x)
      (λ g.
      let r = class_goes M lawful s formed w x l g in
      (omega (arith, r.below), r.class, r.going ∙ sym g))
      (λ g.
      let c = class_stays M lawful s formed w x l g in
      (omega (arith, formed.low x l), ap class c ∙ formed.named x l, ap (goes M s) c ∙ name_stays M lawful s formed w x l ∙ sym g))

  -- one new name is one class and one side of it
  parts : (x y : ℕ) → x < M.size → y < M.size → class' x ≡ class' y → (class x ≡ class y) × (goes M s x ≡ goes M s y)
  parts x y l m e = (sym (named x l).1 ∙ ap class e ∙ (named y m).1, sym (named x l).2 ∙ ap (goes M s) e ∙ (named y m).2)

  joins : (x y : ℕ) → x < M.size → y < M.size → class x ≡ class y → goes M s x ≡ goes M s y → class' x ≡ class' y
  joins x y l m e f = le_antisymm (first x y l m e f) (first y x m l (sym e) (sym f))
    where
      first : (x y : ℕ) → x < M.size → y < M.size → class x ≡ class y → goes M s x ≡ goes M s y → class' x ≤ class' y
      first x y l m e f =
          by_test (goes M s x)
          (λ g. (class_goes M lawful s formed w x l g).least (class' y) (named y m).0 ((named y m).1 ∙ sym e) ((named y m).2 ∙ sym f ∙ g))
          (λ g. omega (arith, class_stays M lawful s formed w x l g, class_stays M lawful s formed w y m (sym f ∙ g)))

  -- of the class, no more stay than go
  abbrev fewer : ℕ → Bool
  fewer x = leb (kept M s (class x)) (gone M s (class x))

  -- the pending of a part that goes, and of one that stays
  new-pending : (x : ℕ) → x < M.size → goes M s x ≡ true → pending' (class' x) ≡ pick (fewer x) (old M s (class x)) M.signs
  new-pending x l g =
      let (i, c, f) = named x l in
      rw (← c)
      (pending_new M lawful s formed w (class' x) i (joins (class' x) x i l c f)
      (λ e. true≢false (sym (f ∙ g) ∙ ap (goes M s) (sym e) ∙ name_stays M lawful s formed w (class' x) i)))

  old_pending : (x : ℕ) → x < M.size → goes M s x ≡ false
      → pending' (class' x) ≡ pick (not (eqb (gone M s (class x)) 0) && fewer x) M.signs (old M s (class x))
  old_pending x l g =
      rw (class_stays M lawful s formed w x l g) (pending_old M lawful s formed w (class x) (omega (arith, formed.low x l)) (λ (c, u). u (formed.named x l)))

  -- a part is not larger than those of its class that go, or that stay, and the class is both
  gone_most : (x : ℕ) → x < M.size → goes M s x ≡ true → mates M.size class' x ≤ gone M s (class x)
  unfolding mates gone
  gone_most x l g = count_mono _ _ _ (λ y m e.
      let (c, f) = parts y x m l (eqb-true _ _ e) in
      ap₂ ◌&&◌ (eq-eqb _ _ c) (f ∙ g))

  kept_most : (x : ℕ) → x < M.size → goes M s x ≡ false → mates M.size class' x ≤ kept M s (class x)
  unfolding mates kept
  kept_most x l g = count_mono _ _ _ (λ y m e.
      let (c, f) = parts y x m l (eqb-true _ _ e) in
      ap₂ (λ (a b : Bool). a && not b) (eq-eqb _ _ c) (f ∙ g))

  both : (x : ℕ) → kept M s (class x) + gone M s (class x) ≡ mates M.size class x
  unfolding mates kept gone
  both x = count_split _ _ (goes M s)

  -- a part waits anew and is at most half of its class, or has what the class has left
  part_pending : (x : ℕ) → x < M.size
      → ((pending' (class' x) ≡ M.signs) × (2 * mates M.size class' x ≤ mates M.size class x)) ⊎ (pending' (class' x) ≡ old M s (class x))
  unfolding pick
  part_pending x l =
      by_test (goes M s x)
      (λ g.
      by_test (fewer x)
      (λ c. inr (rw (new-pending x l g, c)))
      (λ c. inl (rw (new-pending x l g, c), omega (arith, both x, gone_most x l g, leb-false))))
      (λ g.
      by_test (not (eqb (gone M s (class x)) 0) && fewer x)
      (λ c.
      let d = (and-true (not (eqb (gone M s (class x)) 0)) (fewer x) c).1 in
      inl (rw (old_pending x l g, c), omega (arith, both x, kept_most x l g, leb-true)))
      (λ c. inr (rw (old_pending x l g, c))))

  -- of the two parts of a class one waits anew
  anew : (x y : ℕ) → x < M.size → y < M.size → class x ≡ class y → goes M s x ≡ true → goes M s y ≡ false → (pending' (class' x) ≡ M.signs) ⊎ (pending' (class' y) ≡ M.signs)
  unfolding pick
  anew x y l m e g f =
      by_test (fewer x)
      (λ c. inr (rw (old_pending y m f, ← e, ne_eqb _ 0 (some_gone M lawful s formed w x l g), c)))
      (λ c. inl (rw (new-pending x l g, c)))

  one_anew : (x y : ℕ) → x < M.size → y < M.size → class x ≡ class y → class' x ≢ class' y → (pending' (class' x) ≡ M.signs) ⊎ (pending' (class' y) ≡ M.signs)
  one_anew x y l m e u =
      by_test (goes M s x)
      (λ g. by_test (goes M s y) (λ f. absurd (u (joins x y l m e (g ∙ sym f)))) (anew x y l m e g))
      (λ g. by_test (goes M s y) (λ f. ⊎_swap (anew y x m l (sym e) f g)) (λ f. absurd (u (joins x y l m e (g ∙ sym f)))))

  -- what is left to a class: what waited, but for the pair taken
  left_taken : (p : ℕ) → eqb p q ≡ true → (at s.pending p ≡ suc a) × (old M s p ≡ a)
  unfolding old pick
  left_taken p c =
      let t : at s.pending p ≡ suc a = ap (at s.pending) (eqb-true p q c) ∙ taken_pending M lawful s formed w in
      (t, rw c (ap pred t))

  left_other : (p : ℕ) → eqb p q ≡ false → old M s p ≡ at s.pending p
  unfolding old pick
  left_other p c = rw c

  left_more : (p b : ℕ) → b < at s.pending p → ((p ≡ q) × (b ≡ a) → ⊥) → b < old M s p
  left_more p b h u =
      by_test (eqb p q)
      (λ c.
      let v : b ≢ a = λ f. u (eqb-true p q c, f) in
      omega (arith, left_taken p c))
      (λ c. omega (arith, left_other p c))

  left_most : (p b : ℕ) → (ltb b (at s.pending p) ≡ false) ⊎ ((p ≡ q) × (b ≡ a)) → old M s p ≤ b
  left_most p b u =
      by_test (eqb p q)
      (λ c. ⊎_elim (λ f. omega (arith, left_taken p c, ltb-false)) (λ f. omega (arith, left_taken p c)) u)
      (λ c. ⊎_elim (λ f. omega (arith, left_other p c, ltb-false)) (λ f. absurd (eqb-false _ _ c f.0)) u)

pub take_guarantees : (M : Machine) → Lawful M → (s : Split) → WellFormed M.size M.signs s → waiting M.size s ≡ true
    → Guarantees M (class_of s) (waits_in s) (taken_class M.size s) (taken_sign M.size s) (class_of (take M s)) (waits_in (take M s))
unfolding waits_in hit goes
take_guarantees M lawful s w e = record {
  sign = taken-sign M lawful s w e;
  waited = lt-ltb (taken_sign M.size s) _ (omega (arith, taken_pending M lawful s w e));
  refines = λ x y l m c. (parts M lawful s w e x y l m c).0;
  parted = λ x y l m c.
      let (p, g) = parts M lawful s w e x y l m c in
      same_side (hit M s x) (hit M s y) (hit M s (class_of s x)) (g ∙ ap (λ (p : ℕ). not (beq (hit M s y) (hit M s p))) (sym p));
  joined = λ x y l m c h. joins M lawful s w e x y l m c (ap₂ (λ (h : Bool) (p : ℕ). not (beq h (hit M s p))) h c);
  stays = λ x b l m h u.
      lt-ltb b _ (⊎_elim (λ f. omega arith) (λ f. omega (arith, left_more M lawful s w e (class_of s x) b (ltb-true _ _ h) u)) (part_pending M lawful s w e x l));
  halved = λ x y b l m i c u. ⊎_map (λ f. lt-ltb b _ (omega arith)) (λ f. lt-ltb b _ (omega arith)) (one_anew M lawful s w e x y l m c u);
  small = λ x b l m h u.
      ⊎_elim (λ f. f.1) (λ f. absurd (omega (arith, left_most M lawful s w e (class_of s x) b u, ltb-true))) (part_pending M lawful s w e x l);
}
