-- Where no class has states that lead into the class taken beside others, nobody goes. Rests on the counts of each class.
use mathlib.Core.Path.{◌≡◌, refl, sym, ap, ap₂, ◌∙◌}
use mathlib.Core.Bool.{Bool, true, false, not, ◌&&◌, true≢false}
use mathlib.Core.List.{List}
use Prim.Native.Nat.{ℕ, ◌<◌}
use native.Mathlib.Decide.{ℕ_discrete}
use native.Mathlib.Omega.{arith}
use borrow.Author.Tests.{eq-eqb, ne_eqb}
use lib.Dec.{eqb}
use lib.ListN.{length}
use Rattle.counting.specs.Lists.{at}
use Rattle.counting.specs.Counts.{count}
use Rattle.counting.proofs.Cases.{by_test}
use Rattle.counting.proofs.Tallies.{and-true, any_iff, count_some, count_more}
use Rattle.automaton.specs.Machine.{Machine}
use Rattle.splitting.specs.Work.{leads_to, goes_by, some_split, Classed}

module _ (M : Machine) (class : List ℕ) (q a : ℕ) (classed : Classed M.size class) (size led : List ℕ) (long : length size ≡ M.size)
    (sizes : (c : ℕ) → c < M.size → at size c ≡ count M.size (λ x. eqb (at class x) c))
    (leds : (c : ℕ) → c < M.size → at led c ≡ count M.size (λ x. eqb (at class x) c && leads_to M class q a x))
    (whole : some_split size led ≡ false) where
  abbrev n : ℕ
  n = M.size

  abbrev cut : ℕ → Bool
  cut c = not (eqb (at led c) 0) && not (eqb (at led c) (at size c))

  uncut : (c : ℕ) → c < n → cut c ≡ false
  unfolding some_split
  uncut c l = by_test (cut c) (λ t. absurd (true≢false (sym ((any_iff (length size) cut).1 (c, omega arith, t)) ∙ whole))) (λ t. t)

  -- none of a class leads, or all do
  none_leads : (c x : ℕ) → x < n → at class x ≡ c → c < n → at led c ≡ 0 → leads_to M class q a x ≡ false
  none_leads c x l e m z = by_test (leads_to M class q a x)
      (λ t. absurd (omega (arith, leds c m, z, count_some n (λ y. eqb (at class y) c && leads_to M class q a y) x l (ap₂ ◌&&◌ (eq-eqb (at class x) c e) t))))
      (λ t. t)

  all_lead : (c x : ℕ) → x < n → at class x ≡ c → c < n → at led c ≡ at size c → leads_to M class q a x ≡ true
  all_lead c x l e m z = by_test (leads_to M class q a x)
      (λ t. t)
      (λ t. absurd (omega (
        arith,
        leds c m,
        sizes c m,
        z,
        count_more n (λ y. eqb (at class y) c && leads_to M class q a y) (λ y. eqb (at class y) c) (λ y k h. (and-true _ _ h).0) x l
            (ap₂ ◌&&◌ (eq-eqb (at class x) c e) t) (eq-eqb (at class x) c e),
      )))

  pub nobody_goes : (x : ℕ) → x < n → goes_by M class q a x ≡ false
  unfolding goes_by
  nobody_goes x l = elim (ℕ_discrete (at led c) 0) [
    | yes z ↦ rw (none_leads c x l refl m z, none_leads c c m own m z) refl
    | no u ↦ elim (ℕ_discrete (at led c) (at size c)) [
      | yes z ↦ rw (all_lead c x l refl m z, all_lead c c m own m z) refl
      | no v ↦ absurd (true≢false (sym (ap₂ ◌&&◌ (ap not (ne_eqb (at led c) 0 u)) (ap not (ne_eqb (at led c) (at size c) v))) ∙ uncut c m))
    ]
  ]
    where
      c : ℕ
      c = at class x

      m : c < n
      m = omega (arith, classed.low x l)

      own : at class c ≡ c
      own = classed.named x l
