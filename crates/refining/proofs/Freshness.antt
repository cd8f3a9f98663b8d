-- The fresh lists: well formed, with the invariants, in balance; and for marks the paper's rule.
use mathlib.Core.Path.{◌≡◌, refl, sym, ◌∙◌}
use mathlib.Core.Logic.{◌≢◌, inl, inr, ⊎_elim}
use mathlib.Core.Bool.{true, false, not, ◌&&◌, and-true, and-false}
use mathlib.Core.List.{[]}
use Prim.Native.Nat.{ℕ, ◌+◌, ◌*◌, ◌≤◌, ◌<◌}
use native.Mathlib.Omega.{arith}
use native.Mathlib.Decide.{ℕ_discrete}
use borrow.Author.Tests.{eq-eqb, ne_eqb, eqb-true, lt-ltb, le-ltb}
use lib.Dec.{eqb}
use Rattle.counting.specs.Lists.{at}
use Rattle.counting.specs.Least.{pick}
use Rattle.counting.specs.Sums.{sum}
use Rattle.counting.proofs.Tabs.{tab-at}
use Rattle.counting.proofs.Tallies.{count_most, count_disjoint}
use Rattle.counting.proofs.Sums.{sum_change, sum_scale, count-sum}
use Rattle.automaton.specs.Machine.{Machine, Lawful}
use Rattle.automaton.specs.Words.{Marked, steps}
use Rattle.automaton.specs.Layers.{layer, class_count}
use Rattle.automaton.proofs.Alikes.{layer_le, layer-name, layer_zero}
use Rattle.refining.specs.Lists.{WellFormed}
use Rattle.refining.specs.Guarantee.{mates}
use Rattle.refining.specs.Fresh.{class_sizes, spared_of, pending_of, fresh_of, fresh, marked_pending}
use Rattle.refining.proofs.Correctness.{Separates}
use Rattle.refining.proofs.Halving.{Bounded}
use Rattle.refining.proofs.Points.{class_of}
use Rattle.refining.proofs.Published.{waits_in}
use Rattle.refining.proofs.Spared.{members, spared_is}
use Rattle.refining.proofs.Marks.{due_iff}

module _ (M : Machine) (lawful : Lawful M) where
  -- the name that is spared
  abbrev spared : ℕ
  spared = spared_of M (layer M 0) (class_sizes M.size (layer M 0))

  pending_at : (q : ℕ) → q < M.size → at (fresh M).pending q ≡ pick (eqb (at (layer M 0) q) q && not (eqb q spared)) M.signs 0
  unfolding fresh fresh_of pending_of
  pending_at q l = tab-at M.size _ 0 q l

  pending_spared : at (fresh M).pending spared ≡ 0
  unfolding pick
  pending_spared = pending_at spared (spared_is M lawful).within ∙ rw (eq-eqb _ _ (spared_is M lawful).named, eq-eqb spared spared refl)

  pending_other : (q : ℕ) → q < M.size → q ≢ spared → at (fresh M).pending q ≡ M.signs * pick (eqb (at (layer M 0) q) q) 1 0
  unfolding pick
  pending_other q l u =
      pending_at q l
      ∙ rw (ne_eqb q spared u)
      (elim (eqb (at (layer M 0) q) q) as (λ b. pick (b && true) M.signs 0 ≡ M.signs * pick b 1 0) [ true ↦ omega arith | false ↦ omega arith ])

  pub fresh-formed : WellFormed M.size M.signs (fresh M)
  unfolding fresh fresh_of pick
  fresh-formed = record {
    low = layer_le M 0;
    named = layer-name M 0;
    few = λ q l. rw (pending_at q l) (elim (eqb (at (layer M 0) q) q && not (eqb q spared)) as (λ b. pick b M.signs 0 ≤ M.signs) [ true ↦ omega arith | false ↦ omega arith ]);
    none = λ q l u. pending_at q l ∙ rw (ne_eqb _ _ u);
  }

  -- a class that is not spared waits
  waits : (t b : ℕ) → t < M.size → b < M.signs → at (layer M 0) t ≢ spared → waits_in (fresh M) (at (layer M 0) t) b ≡ true
  unfolding waits_in pick
  waits t b l m u =
      lt-ltb b _ (rw (pending_other (at (layer M 0) t) (omega (arith, layer_le M 0 t l)) u, eq-eqb _ _ (layer-name M 0 t l)) (omega arith))

  idle : (b : ℕ) → waits_in (fresh M) spared b ≡ false
  unfolding waits_in
  idle b = le-ltb b _ (rw pending_spared (omega arith))

  pub fresh_separates : Separates M (class_of (fresh M)) (waits_in (fresh M))
  unfolding fresh fresh_of steps
  fresh_separates = record {
    kinds = λ x y k l. (layer_zero M x y k l).0;
    together = λ x y k l s. (layer_zero M x y k l).1 (s.word [] tt);
    watched = λ x y b k l m e u. elim (ℕ_discrete (at (layer M 0) (M.next x b)) spared) [
      | yes f ↦ inr (waits _ b (lawful.next_in y b l m) m (λ g. u (f ∙ sym g)))
      | no v ↦ inl (waits _ b (lawful.next_in x b k m) m v)
    ];
  }

  pub fresh_bounded : Bounded M (class_of (fresh M)) (waits_in (fresh M)) (λ t b. 0)
  unfolding fresh fresh_of mates members pick
  fresh_bounded = record {
    bound = λ t b l m. elim (ℕ_discrete (at (layer M 0) t) spared) [
      | yes e ↦ rw (e, idle b) (omega (arith, count_most M.size (λ x. eqb (at (layer M 0) x) spared)))
      | no u ↦
          let d : members M (at (layer M 0) t) + members M spared ≤ M.size = count_disjoint M.size _ _ (λ i k e. ne_eqb _ _ (λ f. u (sym (eqb-true _ _ e) ∙ f))) in
          rw (waits t b l m u)
          (⊎_elim (λ h. omega arith) (λ h. omega arith) ((spared_is M lawful).first _ (omega (arith, layer_le M 0 t l)) (layer-name M 0 t l)))
    ];
  }

  pub fresh_balance : sum M.size (at (fresh M).pending) + M.signs ≡ M.signs * class_count M.size (fresh M).class
  unfolding fresh fresh_of class_count pick
  fresh_balance =
      let s = spared_is M lawful in
      let one : M.signs * pick (eqb (at (layer M 0) spared) spared) 1 0 ≡ M.signs = rw (eq-eqb _ _ s.named) (omega arith) in
      rw (count-sum, ← sum_scale)
      (omega (arith, pending_spared, sum_change M.size (at (fresh M).pending) (λ q. M.signs * pick (eqb (at (layer M 0) q) q) 1 0) spared s.within pending_other))

  -- with marks, every class but a largest is the paper's rule
  pub fresh_marked : Marked M → (q : ℕ) → q < M.size → at (fresh M).pending q ≡ marked_pending M q
  unfolding marked_pending pick
  fresh_marked m q l = pending_at q l ∙ elim (ℕ_discrete (at (layer M 0) q) q) [
    | yes e ↦ rw (eq-eqb _ _ e, and-true, due_iff M m spared (spared_is M lawful) q l e)
    | no u ↦ rw (ne_eqb _ _ u, and-false)
  ]
