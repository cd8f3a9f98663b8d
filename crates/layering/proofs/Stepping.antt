-- One state more is done: where its name was there before, and where its name is new and goes to the head of its bucket.
use mathlib.Core.Path.{◌≡◌, refl, sym, ap, subst, ◌∙◌}
use mathlib.Core.Logic.{◌≢◌}
use mathlib.Core.Bool.{true, false, true≢false}
use mathlib.Core.List.{List}
use Prim.Native.Nat.{ℕ, suc, ◌≤◌, ◌<◌}
use native.Mathlib.Decide.{ℕ_discrete}
use native.Mathlib.Omega.{arith}
use lib.ListN.{length, set}
use lib.Seq.{get_or-set_same, get_or-set_other}
use Rattle.counting.specs.Lists.{at}
use Rattle.counting.specs.Least.{name}
use Rattle.automaton.specs.Machine.{Machine}
use Rattle.automaton.specs.Layers.{alike_next}
use Rattle.layering.specs.Sized.{Sized}
use Rattle.layering.specs.Work.{Numbers, bucket, Named, New, Done, Advanced}
use Rattle.layering.proofs.Buckets.{bucket_below}

other : (xs : List ℕ) (i v j : ℕ) → j ≢ i → at (set xs i v) j ≡ at xs j
other xs i v j u = get_or-set_other xs i j v 0 u

own : (xs : List ℕ) (i v : ℕ) → i < length xs → at (set xs i v) i ≡ v
own xs i v l = get_or-set_same xs i v 0 l

-- the name was there before, or is the one that the state had
abbrev pub found_after : Numbers → ℕ → ℕ → Numbers
found_after w q r = record w { laters = set w.laters q r }

-- the name is new
abbrev pub new_after : Numbers → ℕ → ℕ → ℕ → Numbers
new_after w q b round = record {
  names = w.names;
  laters = set w.laters q q;
  links = set w.links q (at w.heads b);
  births = set w.births q round;
  parents = set w.parents q (at w.names q);
  heads = set w.heads b q;
}

module _ (M : Machine) (w : Numbers) (q : ℕ) (l : q < M.size) (d : Done M w q) (long : length w.names ≡ M.size) (sized : Sized (length w.names) w.laters w.links w.births w.parents w.heads) where
  -- the names of the next layer, with r for the state
  module _ (r : ℕ) (nq : name (alike_next M w.names) q ≡ r) where
    abbrev laters : List ℕ
    laters = set w.laters q r

    later_own : at laters q ≡ r
    later_own = own w.laters q r (omega arith)

    right : (s : ℕ) → s < suc q → at laters s ≡ name (alike_next M w.names) s
    right s k = elim (ℕ_discrete s q) [
      | yes e ↦ subst (λ (x : ℕ). at laters x ≡ name (alike_next M w.names) x) (sym e) (later_own ∙ sym nq)
      | no u ↦ other w.laters q r s u ∙ d.right s (omega arith)
    ]

    -- a new name before is one now, and the other way round, but for q
    lifted : (s : ℕ) → New w.names w.laters q s → New w.names laters (suc q) s
    lifted s h =
        let k : s < q = h.below in
        record { below = omega arith; named = other w.laters q r s (omega arith) ∙ h.named; fresh = h.fresh }

    lowered : (s : ℕ) → s ≢ q → New w.names laters (suc q) s → New w.names w.laters q s
    lowered s u h = record { below = omega (arith, h.below); named = sym (other w.laters q r s u) ∙ h.named; fresh = h.fresh }

    pub advanced_found : (round : ℕ) → (r ≡ q → at w.names q ≡ q) → Advanced M w (found_after w q r) q round false
    advanced_found round f = record {
      same = refl;
      laters = λ x u. other w.laters q r x u;
      done = record {
        right = right;
        heads = λ b k z. (let (g, e) = d.heads b k z in (lifted _ g, e));
        links = λ s h z. (let (o, g, e) = d.links s (lowered s (old s h) h) z in (o, lifted _ g, e));
        greatest = λ s h. d.greatest s (lowered s (old s h) h);
        next = λ p s g h. d.next p s (lowered p (old p g) g) (lowered s (old s h) h);
      };
      births = λ c u. (refl, refl);
      newborn = λ t. absurd (true≢false (sym t));
      quiet = λ t h. f (sym later_own ∙ h);
    }
      where
        -- q is no new name
        old : (s : ℕ) → New w.names laters (suc q) s → s ≢ q
        old s h e = h.fresh (subst (λ (x : ℕ). at w.names x ≡ x) (sym e) (f (sym later_own ∙ subst (λ (x : ℕ). at laters x ≡ x) e h.named)))

  module _ (named : Named M.size w.names) (b round : ℕ) (e : b ≡ bucket M w.names q) (fresh : at w.names q ≢ q) (nq : name (alike_next M w.names) q ≡ q) where
    abbrev v : Numbers
    v = new_after w q b round

    small : b < M.size
    small = omega (arith, e, bucket_below M w.names q q l)

    new : New w.names v.laters (suc q) q
    new = record { below = omega arith; named = later_own q nq; fresh = fresh }

    link_own : at v.links q ≡ at w.heads b
    link_own = own w.links q (at w.heads b) (omega arith)

    heads : (c : ℕ) → c < M.size → at v.heads c ≢ 0 → New w.names v.laters (suc q) (at v.heads c) × (bucket M w.names (at v.heads c) ≡ c)
    heads c k z = elim (ℕ_discrete c b) [
      | yes f ↦ subst (λ (x : ℕ). New w.names v.laters (suc q) x × (bucket M w.names x ≡ c)) (sym (ap (at v.heads) f ∙ own w.heads b q (omega arith))) (new, sym (f ∙ e))
      | no u ↦
          (let x : at v.heads c ≡ at w.heads c = other w.heads b q c u in
          let (g, f) = d.heads c k (λ y. z (x ∙ y)) in
          subst (λ (x : ℕ). New w.names v.laters (suc q) x × (bucket M w.names x ≡ c)) (sym x) (lifted q nq _ g, f))
    ]

    links : (s : ℕ) → New w.names v.laters (suc q) s → at v.links s ≢ 0 → (at v.links s < s) × New w.names v.laters (suc q) (at v.links s) × (bucket M w.names (at v.links s) ≡ bucket M w.names s)
    links s h z = elim (ℕ_discrete s q) [
      | yes f ↦
          (let x : at v.links s ≡ at w.heads b = ap (at v.links) f ∙ link_own in
          let (g, i) = d.heads b small (λ y. z (x ∙ y)) in
          subst (λ (x : ℕ). (x < s) × New w.names v.laters (suc q) x × (bucket M w.names x ≡ bucket M w.names s)) (sym x) (omega (arith, g.below), lifted q nq _ g, i ∙ e ∙ ap (bucket M w.names) (sym f)))
      | no u ↦
          (let x : at v.links s ≡ at w.links s = other w.links q (at w.heads b) s u in
          let (o, g, i) = d.links s (lowered q nq s u h) (λ y. z (x ∙ y)) in
          subst (λ (x : ℕ). (x < s) × New w.names v.laters (suc q) x × (bucket M w.names x ≡ bucket M w.names s)) (sym x) (o, lifted q nq _ g, i))
    ]

    greatest : (s : ℕ) → New w.names v.laters (suc q) s → s ≤ at v.heads (bucket M w.names s)
    greatest s h = elim (ℕ_discrete (bucket M w.names s) b) [
      | yes f ↦ omega (arith, ap (at v.heads) f, own w.heads b q (omega (arith, small)), h.below)
      | no u ↦ omega (arith, other w.heads b q (bucket M w.names s) u, d.greatest s (lowered q nq s (λ f. u (ap (bucket M w.names) f ∙ sym e)) h))
    ]

    next : (p s : ℕ) → New w.names v.laters (suc q) p → New w.names v.laters (suc q) s → bucket M w.names p ≡ bucket M w.names s → s < p → s ≤ at v.links p
    next p s g h f k =
        let i : s < q = omega (arith, g.below) in
        let h' = lowered q nq s (omega arith) h in
        elim (ℕ_discrete p q) [
          | yes x ↦ omega (arith, d.greatest s h', ap (at w.heads) (sym f ∙ ap (bucket M w.names) x ∙ sym e), ap (at v.links) x, link_own)
          | no u ↦ omega (arith, d.next p s (lowered q nq p u g) h' f k, other w.links q (at w.heads b) p u)
        ]

    pub advanced_new : Advanced M w v q round true
    advanced_new = record {
      same = refl;
      laters = λ x u. other w.laters q q x u;
      done = record { right = right q nq; heads = heads; links = links; greatest = greatest; next = next };
      births = λ c u. (let f : c ≢ q = λ h. true≢false (u h) in (other w.births q round c f, other w.parents q (at w.names q) c f));
      newborn = λ t. (later_own q nq, omega (arith, named.low q l), own w.births q round (omega arith), own w.parents q (at w.names q) (omega arith));
      quiet = λ t. absurd (true≢false t);
    }
