-- Marking the next states of a state: under no sign yet, and under one sign more.
use mathlib.Core.Path.{◌≡◌, refl, sym, subst, ◌∙◌}
use mathlib.Core.Logic.{◌≢◌}
use mathlib.Core.Bool.{Bool, true, false, ◌||◌, true≢false, or-true, or-false}
use mathlib.Core.List.{List}
use Prim.Native.Nat.{ℕ, suc, ◌+◌, ◌≤◌, ◌<◌}
use native.Mathlib.Numerals.{add-one}
use native.Mathlib.Decide.{ℕ_discrete}
use native.Mathlib.Omega.{arith}
use borrow.Author.Tests.{eq-eqb, ne_eqb, eqb-true, eqb-false}
use lib.Dec.{eqb}
use lib.ListN.{length, set}
use lib.Seq.{get_or-set_same, get_or-set_other}
use Rattle.counting.proofs.Cases.{neither}
use Rattle.counting.specs.Lists.{at}
use Rattle.counting.specs.Least.{pick}
use Rattle.counting.specs.Counts.{any}
use Rattle.automaton.specs.Machine.{Machine}
use Rattle.shrinking.specs.Reached.{leads_to, Spread}

pub spread_none : (M : Machine) (q : ℕ) (w : List ℕ) → Spread M q 0 w w false
unfolding leads_to any pick
spread_none M q w = record {
  marks = λ x l. refl;
  quiet = λ e x l. refl;
  busy = λ e. absurd (true≢false (sym e));
}

module _ (M : Machine) (q a : ℕ) (w v : List ℕ) (new : Bool) (s : Spread M q a w v new) (x : ℕ) (e : x ≡ M.next q a) (l : x < M.size) (room : M.size ≤ length v) (small : (y : ℕ) → y < M.size → at w y ≤ 1) where
  abbrev u : List ℕ
  u = set v x 1

  own : at u x ≡ 1
  own = get_or-set_same v x 1 0 (omega arith)

  other : (y : ℕ) → y ≢ x → at u y ≡ at v y
  other y = get_or-set_other v x y 1 0

  more : (y : ℕ) → leads_to M q (suc a) y ≡ (leads_to M q a y || eqb (M.next q a) y)
  unfolding leads_to any
  more y = refl

  marks : (y : ℕ) → y < M.size → at u y ≡ pick (leads_to M q (suc a) y) 1 (at w y)
  unfolding pick
  marks y k = elim (ℕ_discrete y x) [
    | yes d ↦ rw (more y, eq-eqb (M.next q a) y (sym (d ∙ e)), or-true (leads_to M q a y), d) own
    | no n ↦ rw (more y, ne_eqb (M.next q a) y (λ d. n (sym (e ∙ d))), or-false (leads_to M q a y)) (other y n ∙ s.marks y k)
  ]

  quiet : new ≡ false → eqb (at v x) 0 ≡ false → (y : ℕ) → y < M.size → at u y ≡ at w y
  quiet f g y k = elim (ℕ_discrete y x) [
    | yes d ↦
        (let n : at v x ≢ 0 = eqb-false (at v x) 0 g in
        let same : at v x ≡ at w x = s.quiet f x l in
        subst (λ (z : ℕ). at u z ≡ at w z) (sym d) (own ∙ omega (arith, small x l)))
    | no n ↦ other y n ∙ s.quiet f y k
  ]

  busy : (b c : Bool) → b ≡ new → c ≡ eqb (at v x) 0 → (b || c) ≡ true → (y : ℕ) × (y < M.size) × (at w y ≡ 0) × (at u y ≡ 1)
  busy true c f g t =
      let (y, k, z, o) = s.busy (sym f) in
      (y, k, z, elim (ℕ_discrete y x) [ yes d ↦ subst (λ (i : ℕ). at u i ≡ 1) (sym d) own | no n ↦ other y n ∙ o ])
  busy false c f g t = (x, l, sym (s.quiet (sym f) x l) ∙ eqb-true (at v x) 0 (sym g ∙ t), own)

  more_signs : Spread M q (suc a) w u (new || eqb (at v x) 0)
  more_signs = record {
    marks = marks;
    quiet = λ f. let (g, h) = neither new (eqb (at v x) 0) f in quiet g h;
    busy = busy new (eqb (at v x) 0) refl refl;
  }

  pub spread_more : (told : Bool) → told ≡ (new || eqb (at v x) 0) → Spread M q (a + 1) w u told
  spread_more told t = rw (add-one a, t) more_signs
