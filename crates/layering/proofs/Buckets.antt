-- Looking along the bucket of a state: states alike in the next layer have one bucket, and what is passed is not alike, so the first name that is alike is the state's, and the bucket's end means its own.
use mathlib.Core.Path.{◌≡◌, sym, ap, ap₂, subst, ◌∙◌}
use mathlib.Core.Logic.{◌≢◌, ◌↔◌}
use mathlib.Core.Bool.{Bool, true, false, ◌&&◌, true≢false}
use mathlib.Core.List.{List}
use Prim.Native.Nat.{ℕ, zero, suc, ◌+◌, ◌*◌, ◌/◌, ◌%◌, ◌≤◌, ◌<◌}
use native.Mathlib.Nat.{le_antisymm, mod-lt}
use native.Mathlib.Decide.{ℕ_discrete, dec_lt}
use native.Mathlib.Omega.{arith}
use borrow.Author.Tests.{eq-eqb, eqb-true}
use lib.Dec.{eqb}
use Rattle.counting.specs.Lists.{at}
use Rattle.counting.specs.Least.{name}
use Rattle.counting.proofs.Tallies.{and-true, all_iff}
use Rattle.counting.proofs.Names.{Alike, name_le, name_alike, name-least, name_iff, name-name}
use Rattle.automaton.specs.Machine.{Machine, Lawful}
use Rattle.automaton.specs.Layers.{alike_next}
use Rattle.automaton.proofs.Alikes.{alike_next_lem}
use Rattle.layering.specs.Work.{this, Numbers, mixed, bucket, same_nexts, Named, New, Done}

-- mixed are the names of a state and of its next states, and nothing else
pub mixed_same : (M N : Machine) (w v : List ℕ) (y x k : ℕ) → this w y ≡ this v x → ((a : ℕ) → a < k → this w (M.next y a) ≡ this v (N.next x a)) → (a : ℕ) → a ≤ k → mixed M w y a ≡ mixed N v x a
unfolding mixed
mixed_same M N w v y x k e h zero l = e
mixed_same M N w v y x k e h (suc a) l = ap₂ (λ (m t : ℕ). (m * 2654435761 + t) % 4294967296) (mixed_same M N w v y x k e h a (omega arith)) (h a (omega arith))

pub bucket_below : (M : Machine) (names : List ℕ) (q s : ℕ) → s < M.size → bucket M names q < M.size
unfolding bucket
bucket_below M names q s l = mod-lt (mixed M names q M.signs / 65536) (omega arith)

-- one bucket, where this layer's names agree
pub bucket_same : (M : Machine) → Lawful M → (w v : List ℕ) → ((x : ℕ) → x < M.size → this v x ≡ this w x) → (q : ℕ) → q < M.size → bucket M v q ≡ bucket M w q
unfolding bucket
bucket_same M lawful w v h q l =
    ap (λ (m : ℕ). m / 65536 % M.size)
    (mixed_same M M v w q q M.signs (h q l) (λ a b. h (M.next q a) (lawful.next_in q a l b)) M.signs (omega arith))

-- Names of the bucket of q from r on up are not alike to q; r is one of them, or 0 where none is left.
pub record Passed (M : Machine) (w : Numbers) (q r : ℕ) : Type 0 where
  pub name : r ≢ 0 → New w.names w.laters q r × (bucket M w.names r ≡ bucket M w.names q)
  pub above : (s : ℕ) → New w.names w.laters q s → bucket M w.names s ≡ bucket M w.names q → r < s → alike_next M w.names s q ≡ true → ⊥

module _ (M : Machine) (names : List ℕ) where
  -- alike in the next layer
  abbrev same : ℕ → ℕ → Bool
  same = alike_next M names

  equivalence : Alike same
  equivalence = alike_next_lem M names

  -- the test of code: one name in this layer, and next states of the same names
  pub same_iff : (y x : ℕ) → (same y x ≡ true) ↔ ((at names y ≡ at names x) × (same_nexts M names y x ≡ true))
  unfolding alike_next same_nexts
  same_iff y x = ((λ e. let (u, v) = and-true _ _ e in (eqb-true _ _ u, v)), (λ h. ap₂ ◌&&◌ (eq-eqb _ _ h.0) h.1))

  -- states alike in the next layer have one bucket
  one_bucket : (y x : ℕ) → same y x ≡ true → bucket M names y ≡ bucket M names x
  unfolding bucket same_nexts
  one_bucket y x t =
      let (e, f) = (same_iff y x).0 t in
      ap (λ (z : ℕ). z / 65536 % M.size) (mixed_same M M names names y x M.signs e (λ b l. eqb-true _ _ ((all_iff M.signs (λ a. eqb (at names (M.next y a)) (at names (M.next x a)))).0 f b l)) M.signs (omega arith))

  module _ (q : ℕ) (l : q < M.size) (named : Named M.size names) where
    -- a name that is alike has the class's least state for its name in this layer
    class : (at names (name same q) ≡ at names q) × (at names q ≤ name same q)
    class =
        let c : ℕ = name same q in
        let m : c ≤ q = name_le same equivalence q in
        let e : at names c ≡ at names q = ((same_iff c q).0 (name_alike same equivalence q)).0 in
        (e, omega (arith, e, named.low c (omega arith)))

    -- the class's least state is its own name in the next layer too
    pub own_found : at names q ≡ q → name same q ≡ q
    own_found e = le_antisymm (name_le same equivalence q) (omega (arith, e, class.1))

    pub this_found : same_nexts M names q (at names q) ≡ true → name same q ≡ at names q
    this_found e =
        let p : ℕ = at names q in
        let t : same p q ≡ true = equivalence.back q p ((same_iff q p).1 (sym (named.named q l), e)) in
        le_antisymm (name-least same equivalence q p t) class.1

module _ (M : Machine) (w : Numbers) (q : ℕ) (l : q < M.size) (named : Named M.size w.names) (done : Done M w q) where
  alike : Alike (alike_next M w.names)
  alike = equivalence M w.names

  pub passed_start : (r : ℕ) → r ≡ at w.heads (bucket M w.names q) → Passed M w q r
  passed_start r e = record {
    name = λ z.
        (let k = done.heads (bucket M w.names q) (bucket_below M w.names q q l) (λ f. z (e ∙ f)) in
        subst (λ (s : ℕ). New w.names w.laters q s × (bucket M w.names s ≡ bucket M w.names q)) (sym e) k);
    above = λ s h f k t. omega (arith, done.greatest s h, ap (at w.heads) f, e);
  }

  -- a new name of the bucket, of the class and with next states of the same names, is the state's
  pub passed_found : (r : ℕ) → Passed M w q r → r ≢ 0 → at w.names r ≡ at w.names q → same_nexts M w.names q r ≡ true → (r < q) × (name (alike_next M w.names) q ≡ r)
  passed_found r p z c e =
      let h : New w.names w.laters q r = (p.name z).0 in
      let t : alike_next M w.names r q ≡ true = alike.back q r ((same_iff M w.names q r).1 (sym c, e)) in
      (h.below, sym ((name_iff _ alike r q).1 t) ∙ sym (done.right r h.below) ∙ h.named)

  passed_next : (r s : ℕ) → Passed M w q r → r ≢ 0 → (alike_next M w.names r q ≡ true → ⊥) → s ≡ at w.links r → Passed M w q s
  passed_next r s p z u e =
      let (h, b) = p.name z in
      record {
        name = λ y.
            (let (_, g, f) = done.links r h (λ x. y (e ∙ x)) in
            subst (λ (t : ℕ). New w.names w.laters q t × (bucket M w.names t ≡ bucket M w.names q)) (sym e) (g, f ∙ b));
        above = λ t g f k a.
            elim (ℕ_discrete t r) [
              | yes x ↦ u (subst (λ (y : ℕ). alike_next M w.names y q ≡ true) x a)
              | no x ↦ elim (dec_lt r t) [ yes y ↦ p.above t g f y a | no y ↦ omega (arith, done.next r t h g (b ∙ sym f) (omega arith), e) ]
            ];
      }

  -- past a name of another class
  pub passed_other : (r s : ℕ) → Passed M w q r → r ≢ 0 → at w.names r ≢ at w.names q → s ≡ at w.links r → Passed M w q s
  passed_other r s p z u e = passed_next r s p z (λ t. u ((same_iff M w.names r q).0 t).0) e

  -- past a name with next states of other names
  pub passed_unlike : (r s : ℕ) → Passed M w q r → r ≢ 0 → same_nexts M w.names q r ≡ false → s ≡ at w.links r → Passed M w q s
  passed_unlike r s p z f e = passed_next r s p z (λ t. true≢false (sym ((same_iff M w.names q r).0 (alike.back r q t)).1 ∙ f)) e

  -- the measure: a link leads down
  pub link_falls : (r s : ℕ) → Passed M w q r → r ≢ 0 → s ≡ at w.links r → s < r
  link_falls r s p z e = elim (ℕ_discrete s 0) [
    | yes y ↦ omega arith
    | no y ↦ omega (arith, e, (done.links r (p.name z).0 (λ x. y (e ∙ x))).0)
  ]

  pub passed_last : Passed M w q 0 → at w.names q ≢ q → same_nexts M w.names q (at w.names q) ≡ false → name (alike_next M w.names) q ≡ q
  passed_last p u f =
      let c : ℕ = name (alike_next M w.names) q in
      let m : c ≤ q = name_le _ alike q in
      let (e, low) = class M w.names q l named in
      elim (dec_lt c q) [
        | yes h ↦
            (let t : alike_next M w.names c q ≡ true = name_alike _ alike q in
            let n : same_nexts M w.names q c ≡ true = ((same_iff M w.names q c).0 (alike.back c q t)).1 in
            let v : at w.names c ≢ c = λ x. true≢false (sym (subst (λ (y : ℕ). same_nexts M w.names q y ≡ true) (sym x ∙ e) n) ∙ f) in
            let g : New w.names w.laters q c = record { below = h; named = done.right c h ∙ name-name _ alike q; fresh = v } in
            absurd (p.above c g (one_bucket M w.names c q t) (omega (arith, named.low c (omega arith))) t))
        | no h ↦ omega arith
      ]
