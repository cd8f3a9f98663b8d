-- A take keeps any well_formed lists well formed; the test of well-formedness is what it tests.
use mathlib.Core.Path.{◌≡◌, refl, sym, ap, ap₂, ◌∙◌}
use mathlib.Core.Logic.{◌↔◌, ◌≢◌}
use mathlib.Core.Bool.{Bool, true, false, not, ◌&&◌, ◌||◌, or-true, or-false, false≢true}
use Prim.Native.Nat.{ℕ, ◌≤◌, ◌<◌}
use native.Mathlib.Decide.{ℕ_discrete}
use native.Mathlib.Omega.{arith}
use borrow.Author.Tests.{eq-eqb, ne_eqb, eqb-true, le-leb, leb-true, not-false}
use lib.Dec.{eqb, leb}
use Rattle.counting.specs.Lists.{at}
use Rattle.counting.specs.Least.{pick}
use Rattle.counting.proofs.Leasts.{least_is, least_none}
use Rattle.counting.proofs.Cases.{by_test}
use Rattle.automaton.specs.Machine.{Machine, Lawful}
use Rattle.refining.specs.Lists.{Split, WellFormed, formed, ill_formed, waiting}
use Rattle.refining.specs.Take.{take}
use Rattle.refining.proofs.Points.{class_of, goes, gone, old, name_stays, none_gone, class_stays, class_goes, pending_new, pending_old}

four : (a b c d : Bool) → (a && b && c && d) ≡ true → (a ≡ true) × (b ≡ true) × (c ≡ true) × (d ≡ true)
four true true true d e = (refl, refl, refl, e)
four true true false d e = absurd (false≢true e)
four true false c d e = absurd (false≢true e)
four false b c d e = absurd (false≢true e)

-- no state fails exactly when the lists are well formed
pub formed_iff : (n k : ℕ) (s : Split) → (ill_formed n k s ≡ n) ↔ WellFormed n k s
unfolding ill_formed formed
formed_iff n k s = (from, λ w. least_none n _ (λ q l. ap not (to w q l)))
  where
    tests : ill_formed n k s ≡ n → (q : ℕ) → q < n
        → (leb (at s.class q) q ≡ true)
        × (eqb (at s.class (at s.class q)) (at s.class q) ≡ true)
        × (leb (at s.pending q) k ≡ true)
        × ((eqb (at s.pending q) 0 || eqb (at s.class q) q) ≡ true)
    tests e q l = four _ _ _ _ (not-false (formed k s q) ((least_is n (λ i. not (formed k s i))).before q (rw e l)))

    from : ill_formed n k s ≡ n → WellFormed n k s
    from e = record {
      low = λ q l. leb-true _ _ (tests e q l).0;
      named = λ q l. eqb-true _ _ (tests e q l).1;
      few = λ q l. leb-true _ _ (tests e q l).2;
      none = λ q l u. eqb-true _ _ (sym (or-false _) ∙ rw (ne_eqb (at s.class q) q u) at (tests e q l).3);
    }

    to : WellFormed n k s → (q : ℕ) → q < n → formed k s q ≡ true
    to w q l =
        ap₂ ◌&&◌ (ap₂ ◌&&◌ (ap₂ ◌&&◌ (le-leb _ _ (w.low q l)) (eq-eqb _ _ (w.named q l))) (le-leb _ _ (w.few q l)))
        (elim (ℕ_discrete (at s.class q) q) [
          | yes e ↦ ap (λ (b : Bool). eqb (at s.pending q) 0 || b) (eq-eqb _ _ e) ∙ or-true (eqb (at s.pending q) 0)
          | no u ↦ ap (λ (b : Bool). b || eqb (at s.class q) q) (eq-eqb _ _ (w.none q l u))
        ])

pick_le : (b : Bool) {x y k : ℕ} → x ≤ k → y ≤ k → pick b x y ≤ k
unfolding pick
pick_le true h g = h
pick_le false h g = g

pub take_keeps : (M : Machine) → Lawful M → (s : Split) → WellFormed M.size M.signs s → waiting M.size s ≡ true → WellFormed M.size M.signs (take M s)
unfolding old gone
take_keeps M lawful s w e = record {
  low = λ x l. by_test (goes M s x) (λ g. (class_goes M lawful s w e x l g).below) (λ g. rw (class_stays M lawful s w e x l g) (w.low x l));
  named = λ x l. by_test (goes M s x) (renamed x l) (kept_name x l);
  few = few;
  none = none;
}
  where
    renamed : (x : ℕ) → x < M.size → goes M s x ≡ true → class_of (take M s) (class_of (take M s) x) ≡ class_of (take M s) x
    renamed x l g =
        let r = class_goes M lawful s w e x l g in
        let t = class_goes M lawful s w e (class_of (take M s) x) (omega (arith, r.below)) r.going in
        omega (arith, t.below, r.least _ (omega (arith, r.below, t.below)) (t.class ∙ r.class) t.going)

    kept_name : (x : ℕ) → x < M.size → goes M s x ≡ false → class_of (take M s) (class_of (take M s) x) ≡ class_of (take M s) x
    kept_name x l g =
        rw (class_stays M lawful s w e x l g) (class_stays M lawful s w e (class_of s x) (omega (arith, w.low x l)) (name_stays M lawful s w e x l) ∙ w.named x l)

    old_le : (x : ℕ) → old M s x ≤ at s.pending x
    old_le x = pick_le _ (omega arith) (omega arith)

    old_few : (x : ℕ) → x < M.size → old M s x ≤ M.signs
    old_few x l = omega (arith, old_le x, w.few x l)

    few : (x : ℕ) → x < M.size → at (take M s).pending x ≤ M.signs
    few x l = elim (ℕ_discrete (class_of (take M s) x) x) [
      | no u ↦ rw (pending_old M lawful s w e x l (λ h. u h.0)) (pick_le _ (omega arith) (old_few x l))
      | yes f ↦ elim (ℕ_discrete (class_of s x) x) [
        | yes g ↦ rw (pending_old M lawful s w e x l (λ h. h.1 g)) (pick_le _ (omega arith) (old_few x l))
        | no u ↦ rw (pending_new M lawful s w e x l f u) (pick_le _ (old_few (class_of s x) (omega (arith, w.low x l))) (omega arith))
      ]
    ]

    none : (x : ℕ) → x < M.size → class_of (take M s) x ≢ x → at (take M s).pending x ≡ 0
    none x l u = pending_old M lawful s w e x l (λ h. u h.0) ∙ unfold pick in rw (none_gone M lawful s w e x v) (omega (arith, old_le x, w.none x l v))
      where
        v : class_of s x ≢ x
        v c = u (class_stays M lawful s w e x l (cc (name_stays M lawful s w e x l)) ∙ c)
