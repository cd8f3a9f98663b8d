-- A round, state by state: its beginning, and one state more.
use mathlib.Core.Path.{◌≡◌, refl, sym, ap, subst, subst₂, ◌∙◌}
use mathlib.Core.Logic.{◌≢◌}
use mathlib.Core.Bool.{Bool, true, false, ◌||◌}
use mathlib.Core.List.{List}
use Prim.Native.Nat.{ℕ, suc, ◌<◌}
use native.Mathlib.Decide.{ℕ_discrete}
use native.Mathlib.Omega.{arith}
use Rattle.counting.specs.Lists.{at}
use Rattle.counting.proofs.Cases.{by_test, neither}
use Rattle.automaton.specs.Machine.{Machine}
use Rattle.layering.specs.Work.{Numbers, Advanced, Rounded}

module _ (M : Machine) (w v u : Numbers) (round q : ℕ) (changed new : Bool) (r : Rounded M w v round q changed) (a : Advanced M v u q round new) where
  -- this layer's names as they were before the round
  this : (x : ℕ) → at v.names x ≡ at w.names x
  this x = ap (λ (xs : List ℕ). at xs x) r.same

  kept : (x : ℕ) → x < q → at u.laters x ≡ at v.laters x
  kept x k = a.laters x (omega arith)

  -- a new name is told
  new_told : at u.laters q ≡ q → at w.names q ≢ q → new ≡ true
  new_told e t = by_test new (λ f. f) (λ f. absurd (t (sym (this q) ∙ a.quiet f e)))

  fresh : (c : ℕ) → c < suc q → at u.laters c ≡ c → at w.names c ≢ c → (at u.births c ≡ round) × (at u.parents c ≡ at w.names c)
  fresh c k e t = elim (ℕ_discrete c q) [
    | yes h ↦
        (let b = a.newborn (new_told (subst (λ (x : ℕ). at u.laters x ≡ x) h e) (λ z. t (subst (λ (x : ℕ). at w.names x ≡ x) (sym h) z))) in
        subst (λ (x : ℕ). (at u.births x ≡ round) × (at u.parents x ≡ at w.names x)) (sym h) (b.2, b.3 ∙ this q))
    | no g ↦
        (let o = a.births c (λ h. absurd (g h)) in
        let p = r.fresh c (omega arith) (sym (kept c (omega arith)) ∙ e) t in
        (o.0 ∙ p.0, o.1 ∙ p.1))
  ]

  stale : (c : ℕ) → (c < suc q → at u.laters c ≡ c → at w.names c ≡ c) → (at u.births c ≡ at w.births c) × (at u.parents c ≡ at w.parents c)
  stale c h =
      let o = a.births c not_new in
      let p = r.stale c (λ k e. h (omega arith) (kept c k ∙ e)) in
      (o.0 ∙ p.0, o.1 ∙ p.1)
    where
      not_new : c ≡ q → new ≡ false
      not_new e =
          by_test new
          (λ f.
          let b = a.newborn f in
          let g : at w.names q ≡ q = subst (λ (x : ℕ). (x < suc q → at u.laters x ≡ x → at w.names x ≡ x)) e h (omega arith) b.0 in
          absurd (omega (arith, b.1, this q)))
          (λ f. f)

  busy : (x y : Bool) → x ≡ changed → y ≡ new → (x || y) ≡ true → (x : ℕ) × (x < suc q) × (at u.laters x ≡ x) × (at w.names x < x)
  busy true y e f t =
      let (x, k, g, h) = r.busy (sym e) in
      (x, omega arith, kept x k ∙ g, h)
  busy false y e f t =
      let b = a.newborn (sym f ∙ t) in
      (q, omega arith, b.0, omega (arith, b.1, this q))

  pub round_goes_on : Rounded M w u round (suc q) (changed || new)
  round_goes_on = record {
    same = a.same ∙ r.same;
    done = a.done;
    fresh = fresh;
    stale = stale;
    quiet = λ e x k f.
        (let (g, h) = neither changed new e in
        elim (ℕ_discrete x q) [
          | yes i ↦ subst (λ (y : ℕ). at w.names y ≡ y) (sym i) (sym (this q) ∙ a.quiet h (subst (λ (y : ℕ). at u.laters y ≡ y) i f))
          | no i ↦ r.quiet g x (omega arith) (sym (kept x (omega arith)) ∙ f)
        ]);
    busy = busy changed new refl refl;
  }

-- the same round by another spelling of its count and its change
pub rounded_as : {M : Machine} {w u : Numbers} {round q p : ℕ} {changed told : Bool} → q ≡ p → changed ≡ told → Rounded M w u round q changed → Rounded M w u round p told
rounded_as {M} {w} {u} {round} e f r = subst₂ (Rounded M w u round) e f r
