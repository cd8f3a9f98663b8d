-- The take that is due, told of two lists: its class and sign, who leads and goes, and its lists at each state. Rests on the laws of one take at each state.
use mathlib.Core.Path.{◌≡◌, refl, sym, ap, ◌∙◌}
use mathlib.Core.Logic.{◌≢◌}
use mathlib.Core.Bool.{Bool, true, false, not, ◌&&◌, true≢false}
use mathlib.Core.List.{List}
use Prim.Native.Nat.{ℕ, suc, pred, ◌≤◌, ◌<◌}
use native.Mathlib.Decide.{ℕ_discrete}
use native.Mathlib.Omega.{arith}
use borrow.Author.Tests.{eq-eqb, ne_eqb}
use lib.Dec.{eqb, leb}
use lib.ListN.{length, set}
use lib.Seq.{get_or-set_same, get_or-set_other}
use Rattle.counting.specs.Lists.{at}
use Rattle.counting.specs.Least.{pick, least}
use Rattle.counting.specs.Counts.{count}
use Rattle.counting.proofs.Cases.{by_test}
use Rattle.counting.proofs.Leasts.{least_first, least_cong}
use Rattle.counting.proofs.Tallies.{any_iff, count_cong}
use Rattle.automaton.specs.Machine.{Machine, Lawful}
use Rattle.refining.specs.Lists.{Split, WellFormed, waiting}
use Rattle.refining.specs.Take.{taken_class, taken_sign, take as take_of, entries}
use Rattle.refining.proofs.Points as points
use Rattle.splitting.specs.declared.rooms.Rooms.{Rooms}
use Rattle.splitting.specs.Work.{lists_of, leads_to, goes_by, goer, first_goer, Classed, Sized}
use Rattle.splitting.proofs.Divisions.{first_is, new_name, gone_none, gone_some}

-- well_formed lists are classed
pub classed_formed : (n k : ℕ) (s : Split) → n ≤ length s.class → WellFormed n k s → Classed n s.class
classed_formed n k s room w = record { room = room; low = w.low; named = w.named }

-- Class q with sign a is the pair that is due.
pub record Due (M : Machine) (class pending : List ℕ) (q a : ℕ) : Type 0 where
  pub lawful : Lawful M
  pub class_room : M.size ≤ length class
  pub pending_room : M.size ≤ length pending
  pub formed : WellFormed M.size M.signs (record { class = class; pending = pending })
  pub within : q < M.size
  pub sign : at pending q ≡ suc a
  pub first : (p : ℕ) → p < q → at pending p ≡ 0

-- in rooms
pub due_in : (M : Machine) (w : Rooms) (q a : ℕ) → Lawful M → Sized M.size w → WellFormed M.size M.signs (lists_of w) → q < M.size → at w.pendings.now q ≡ suc a
    → ((p : ℕ) → p < q → at w.pendings.now p ≡ 0)
    → Due M w.classes.now w.pendings.now q a
due_in M w q a lawful room formed within sign first = record {
  lawful = lawful;
  class_room = omega (arith, room.classes);
  pending_room = omega (arith, room.pendings);
  formed = formed;
  within = within;
  sign = sign;
  first = first;
}

module _ (M : Machine) (class pending : List ℕ) (q a : ℕ) (d : Due M class pending q a) where
  abbrev n : ℕ
  n = M.size

  abbrev s : Split
  s = record { class = class; pending = pending }

  abbrev lowered : List ℕ
  lowered = set pending q a

  class-in : (x : ℕ) → x < n → at class x < n
  class-in x l = omega (arith, d.formed.low x l)

  pub classed_due : Classed n class
  classed_due = classed_formed n M.signs s d.class_room d.formed

  pub sign_in : a < M.signs
  sign_in = omega (arith, d.formed.few q d.within, d.sign)

  waits_at : not (eqb (at pending q) 0) ≡ true
  waits_at = ap not (ne_eqb (at pending q) 0 (omega (arith, d.sign)))

  waits : waiting n s ≡ true
  unfolding waiting
  waits = (any_iff n (λ p. not (eqb (at pending p) 0))).1 (q, d.within, waits_at)

  class_due : taken_class n s ≡ q
  unfolding taken_class
  class_due =
      least_first n (λ p. not (eqb (at pending p) 0)) q d.within waits_at
      (λ p l. ap not (eq-eqb (at pending p) 0 (d.first p l)))

  sign_due : taken_sign n s ≡ a
  unfolding taken_sign
  sign_due = ap (λ (p : ℕ). pred (at pending p)) class_due ∙ ap pred d.sign

  lead_due : (x : ℕ) → x < n → points.hit M s x ≡ leads_to M class q a x
  unfolding points.hit leads_to
  lead_due x l = rw (class_due, sign_due) refl

  goes_due : (x : ℕ) → x < n → points.goes M s x ≡ goes_by M class q a x
  unfolding points.goes goes_by
  goes_due x l = rw (lead_due x l, lead_due (at class x) (class-in x l)) refl

  goer_due : (c x : ℕ) → x < n → (eqb (at class x) c && points.goes M s x) ≡ goer M class q a c x
  unfolding goer
  goer_due c x l = ap (λ (b : Bool). eqb (at class x) c && b) (goes_due x l)

  pub entries_due : entries M s ≡ count n (leads_to M class q a)
  entries_due = points.entries-hits M d.lawful s d.formed waits ∙ count_cong n _ _ lead_due

  pub class_is : (x : ℕ) → x < n → at (take_of M s).class x ≡ pick (goes_by M class q a x) (least n (goer M class q a (at class x))) (at class x)
  class_is x l = points.class-at M d.lawful s d.formed waits x l ∙ rw (goes_due x l, least_cong n _ _ (goer_due (at class x))) refl

  gone_due : (c : ℕ) → points.gone M s c ≡ count n (goer M class q a c)
  unfolding points.gone
  gone_due c = count_cong n _ _ (goer_due c)

  kept_due : (c : ℕ) → points.kept M s c ≡ count n (λ x. eqb (at class x) c && not (goes_by M class q a x))
  unfolding points.kept
  kept_due c = count_cong n _ _ (λ x l. ap (λ (b : Bool). eqb (at class x) c && not b) (goes_due x l))

  old_due : (x : ℕ) → x < n → points.old M s x ≡ at lowered x
  unfolding points.old pick
  old_due x l = rw class_due (elim (ℕ_discrete x q) [
    | yes e ↦ rw (eq-eqb x q e) (ap pred (ap (at pending) e ∙ d.sign) ∙ sym (get_or-set_same pending q a 0 (omega (arith, d.within, d.pending_room))) ∙ ap (at lowered) (sym e))
    | no u ↦ rw (ne_eqb x q u) (sym (get_or-set_other pending q x a 0 u))
  ])

  -- the pending of a kept name, of a new one, and of any other state
  pub pending_kept : (x : ℕ) → x < n → first_goer M class q a n x ≢ 0
      → at (take_of M s).pending x ≡ pick (leb (count n (λ y. eqb (at class y) x && not (goes_by M class q a y))) (count n (goer M class q a x))) M.signs (at lowered x)
  pending_kept x l u =
      let i = first_is M class q a classed_due x u in
      let own : at class x ≡ x = ap (at class) (sym i.in_class) ∙ classed_due.named _ i.within ∙ i.in_class in
      points.pending_old M d.lawful s d.formed waits x l (λ h. h.1 own)
      ∙ rw (gone_due x, kept_due x, old_due x l, ne_eqb (count n (goer M class q a x)) 0 (gone_some M class q a classed_due x u)) refl

  pub pending_new : (x : ℕ) → x < n → first_goer M class q a n (at class x) ≢ 0 → x ≡ first_goer M class q a n (at class x)
      → at (take_of M s).pending x
      ≡ pick (leb (count n (λ y. eqb (at class y) (at class x) && not (goes_by M class q a y))) (count n (goer M class q a (at class x)))) (at lowered (at class x)) M.signs
  unfolding pick
  pending_new x l u e =
      let i = first_is M class q a classed_due (at class x) u in
      let t : goes_by M class q a x ≡ true = ap (goes_by M class q a) e ∙ i.going in
      points.pending_new M d.lawful s d.formed waits x l (class_is x l ∙ rw t (i.least_is ∙ sym e)) (λ h. omega (arith, i.above, e, h))
      ∙ rw (gone_due (at class x), kept_due (at class x), old_due (at class x) (class-in x l)) refl

  pub pending_other : (x : ℕ) → x < n → first_goer M class q a n x ≡ 0 → ((p : ℕ) → p < n → first_goer M class q a n p ≢ 0 → x ≢ first_goer M class q a n p)
      → at (take_of M s).pending x ≡ at lowered x
  unfolding pick
  pending_other x l z u =
      points.pending_old M d.lawful s d.formed waits x l new
      ∙ rw (gone_due x, old_due x l, eq-eqb (count n (goer M class q a x)) 0 (gone_none M class q a classed_due x z)) refl
    where
      new : (at (take_of M s).class x ≡ x) × (at class x ≢ x) → ⊥
      new (e, v) = by_test (goes_by M class q a x)
          (λ t.
          let (w, m) = new_name M class q a classed_due x l t in
          u (at class x) (class-in x l) w (sym e ∙ class_is x l ∙ rw t m))
          (λ t. v (sym (class_is x l ∙ rw t refl) ∙ e))

  -- a take by which nobody goes
  module _ (quiet : (x : ℕ) → x < n → goes_by M class q a x ≡ false) where
    pub class_quiet : (x : ℕ) → x < n → at (take_of M s).class x ≡ at class x
    unfolding pick
    class_quiet x l = class_is x l ∙ rw (quiet x l) refl

    pub pending_quiet : (x : ℕ) → x < n → at (take_of M s).pending x ≡ at lowered x
    pending_quiet x l = pending_other x l (none x) (λ p m u e. u (none p))
      where
        none : (c : ℕ) → first_goer M class q a n c ≡ 0
        none c = elim (ℕ_discrete (first_goer M class q a n c) 0) [
          | yes z ↦ z
          | no u ↦ (let i = first_is M class q a classed_due c u in absurd (true≢false (sym i.going ∙ quiet _ i.within)))
        ]
