-- With marks, where both occur a class other than the one spared has the mark that the paper makes wait, and the one spared has not.
use mathlib.Core.Path.{◌≡◌, refl, sym, ap, ap₂, ◌∙◌}
use mathlib.Core.Logic.{◌↔◌, ◌≢◌, ⊎_elim}
use mathlib.Core.Bool.{Bool, true, false, not, ◌&&◌, not-eq-not}
use Prim.Native.Nat.{ℕ, zero, suc, ◌+◌, ◌-◌, ◌≤◌, ◌<◌}
use native.Mathlib.Omega.{arith}
use native.Mathlib.Decide.{ℕ_discrete}
use borrow.Author.Tests.{eq-eqb, ne_eqb, eqb-true, eqb-false, le-leb, lt-leb, not-true}
use lib.Dec.{eqb, leb}
use Rattle.counting.specs.Lists.{at}
use Rattle.counting.specs.Least.{pick}
use Rattle.counting.specs.Counts.{count}
use Rattle.counting.proofs.Tallies.{and-true, count_cong, count_some, count_found}
use Rattle.automaton.specs.Machine.{Machine}
use Rattle.automaton.specs.Words.{Marked}
use Rattle.automaton.specs.Layers.{layer}
use Rattle.automaton.proofs.Alikes.{layer_le, layer-name, layer_zero}
use Rattle.refining.proofs.Spared.{members, Spares}

-- how many states have a mark
abbrev pub having : Machine → ℕ → ℕ
having M v = count M.size (λ x. eqb (M.kind x) v)

-- both marks occur
abbrev pub both : Machine → Bool
both M = not (eqb (having M 1) 0) && not (eqb (having M 0) 0)

-- the mark of the class that waits, where both occur
abbrev pub due : Machine → ℕ
due M = pick (leb (having M 1) (having M 0)) 1 0

some_iff : (a : ℕ) → (not (eqb a 0) ≡ true) ↔ (0 < a)
some_iff a = ((λ e. omega (arith, eqb-false a 0 (not-true _ e))), (λ l. ap not (ne_eqb a 0 (omega arith))))

module _ (M : Machine) where
  both_iff : (both M ≡ true) ↔ ((v : ℕ) → v ≤ 1 → 0 < having M v)
  both_iff = (from, λ h. ap₂ ◌&&◌ ((some_iff _).1 (h 1 (omega arith))) ((some_iff _).1 (h 0 (omega arith))))
    where
      from : both M ≡ true → (v : ℕ) → v ≤ 1 → 0 < having M v
      from e zero l = (some_iff _).0 (and-true (not (eqb (having M 1) 0)) _ e).1
      from e (suc zero) l = (some_iff _).0 (and-true (not (eqb (having M 1) 0)) _ e).0
      from e (suc (suc v)) l = absurd (omega arith)

  members_having : (x : ℕ) → x < M.size → members M (at (layer M 0) x) ≡ having M (M.kind x)
  unfolding members
  members_having x l = count_cong M.size _ _ (λ i k. elim (ℕ_discrete (M.kind i) (M.kind x)) [
    | yes e ↦ eq-eqb _ _ ((layer_zero M i x k l).1 e) ∙ sym (eq-eqb _ _ e)
    | no u ↦ ne_eqb _ _ (λ f. u ((layer_zero M i x k l).0 f)) ∙ sym (ne_eqb _ _ u)
  ])

  occurs : (x : ℕ) → x < M.size → 0 < having M (M.kind x)
  occurs x l = count_some M.size _ x l (eq-eqb (M.kind x) _ refl)

  fewer_due : (v : ℕ) → v ≤ 1 → having M v < having M (1 - v) + v → v ≡ due M
  unfolding pick
  fewer_due zero l h = rw (lt-leb (having M 1) (having M 0) (omega arith))
  fewer_due (suc zero) l h = rw (le-leb (having M 1) (having M 0) (omega arith))
  fewer_due (suc (suc v)) l h = absurd (omega arith)

  module _ (m : Marked M) (c : ℕ) (s : Spares M c) where
    -- a mark that occurs and is not the spared class's is due
    other_due : (v : ℕ) → v ≤ 1 → v ≢ M.kind c → 0 < having M v → v ≡ due M
    other_due v l u h =
        let (x, k, t) = count_found M.size _ h in
        let d : ℕ = at (layer M 0) x in
        let w : d < M.size = omega (arith, layer_le M 0 x k) in
        let e : M.kind x ≡ v = eqb-true _ _ t in
        let f : M.kind d ≡ v = (layer_zero M d x w k).0 (layer-name M 0 x k) ∙ e in
        let g : M.kind c ≡ 1 - v = omega (arith, m c s.within) in
        let i : members M d ≡ having M v = members_having x k ∙ ap (having M) e in
        let j : members M c ≡ having M (1 - v) = (rw s.named at (members_having c s.within)) ∙ ap (having M) g in
        fewer_due v l (⊎_elim (λ p. omega arith) (λ p. omega arith) (s.first d w (layer-name M 0 x k)))

    pub due_iff : (q : ℕ) → q < M.size → at (layer M 0) q ≡ q → (both M && eqb (M.kind q) (due M)) ≡ not (eqb q c)
    due_iff q l e = elim (ℕ_discrete q c) [
      | yes f ↦ (not-eq-not {b = false}).0 (λ t.
          let (a, b) = and-true (both M) _ t in
          let k : M.kind c ≤ 1 = m c s.within in
          let g : 1 - M.kind c ≡ due M = other_due (1 - M.kind c) (omega arith) (omega arith) (both_iff.0 a _ (omega arith)) in
          omega (arith, ap M.kind f, eqb-true (M.kind q) (due M) b))
          ∙ sym (ap not (eq-eqb q c f))
      | no u ↦
          let v : M.kind q ≢ M.kind c = λ f. u (sym e ∙ (layer_zero M q c l s.within).1 f ∙ s.named) in
          ap₂ ◌&&◌
          (both_iff.1 (λ x k. elim (ℕ_discrete x (M.kind q)) [
            | yes f ↦ rw f (occurs q l)
            | no w ↦ let f : x ≡ M.kind c = omega (arith, m q l, m c s.within) in rw f (occurs c s.within)
          ]))
          (eq-eqb _ _ (other_due (M.kind q) (m q l) v (occurs q l)))
          ∙ sym (ap not (ne_eqb q c u))
    ]
