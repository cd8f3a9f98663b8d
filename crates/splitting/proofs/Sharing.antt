-- The classes shared one by one: one more.
use mathlib.Core.Path.{◌≡◌, refl, sym, ap, subst, ◌∙◌}
use mathlib.Core.Logic.{◌≢◌}
use mathlib.Core.Bool.{true}
use mathlib.Core.List.{List}
use Prim.Native.Nat.{ℕ, ◌+◌, ◌≤◌, ◌<◌}
use native.Mathlib.Nat.{not-suc-le-zero}
use native.Mathlib.Decide.{ℕ_discrete, dec_lt}
use native.Mathlib.Omega.{arith}
use borrow.Author.Tests.{eq-eqb, ne_eqb, lt-ltb, le-ltb}
use lib.Dec.{ltb}
use lib.ListN.{length, set, length-set}
use lib.Seq.{get_or-set_same, get_or-set_other}
use Rattle.counting.specs.Lists.{at}
use Rattle.counting.specs.Least.{pick}
use Rattle.splitting.specs.Parts.{Numbers, kept_of, kept_pending, new_pending, Fit, Parted, Shared}

less_more : (q p : ℕ) → q ≢ p → ltb q (p + 1) ≡ ltb q p
less_more q p u = elim (dec_lt q p) [ yes l ↦ lt-ltb q (p + 1) (omega arith) ∙ sym (lt-ltb q p l) | no l ↦ le-ltb q (p + 1) (omega arith) ∙ sym (le-ltb q p (omega arith)) ]

less_last : (q p : ℕ) → q ≡ p → ltb q (p + 1) ≡ true
less_last q p e = lt-ltb q (p + 1) (omega arith)

-- a list with two numbers set
module _ (xs ys : List ℕ) (r v p u : ℕ) (is : ys ≡ set (set xs r v) p u) where
  two_long : length ys ≡ length xs
  two_long = ap length is ∙ length-set (set xs r v) p u ∙ length-set xs r v

  two_last : p < length xs → at ys p ≡ u
  two_last l = ap (λ (zs : List ℕ). at zs p) is ∙ get_or-set_same (set xs r v) p u 0 (omega (arith, length-set xs r v))

  two_first : r < length xs → r ≢ p → at ys r ≡ v
  two_first l z = ap (λ (zs : List ℕ). at zs r) is ∙ get_or-set_other (set xs r v) p r u 0 z ∙ get_or-set_same xs r v 0 l

  two_other : (i : ℕ) → i ≢ p → i ≢ r → at ys i ≡ at xs i
  two_other i y z = ap (λ (zs : List ℕ). at zs i) is ∙ get_or-set_other (set xs r v) p i u 0 y ∙ get_or-set_other xs r i v 0 z

-- a list with a number cleared
module _ (xs ys : List ℕ) (p : ℕ) (is : ys ≡ set xs p 0) where
  one_long : length ys ≡ length xs
  one_long = ap length is ∙ length-set xs p 0

  one_own : p < length xs → at ys p ≡ 0
  one_own l = ap (λ (zs : List ℕ). at zs p) is ∙ get_or-set_same xs p 0 0 l

  one_other : (i : ℕ) → i ≢ p → at ys i ≡ at xs i
  one_other i y = ap (λ (zs : List ℕ). at zs i) is ∙ get_or-set_other xs p i 0 0 y

pub shared_none : (k : ℕ) (w : Numbers) → Shared k 0 w w
unfolding pick
shared_none k w = record {
  long = (refl, refl, refl, refl);
  kept = λ p l. absurd (not-suc-le-zero l);
  new = λ p l. absurd (not-suc-le-zero l);
  others = λ y a b. (refl, refl);
  firsts = λ p. rw (le-ltb p 0 (omega arith)) refl;
  gones = λ p. rw (le-ltb p 0 (omega arith)) refl;
}

module _ (k p : ℕ) (w₀ w : Numbers) (l : p < length w₀.sizes) (s : Shared k p w₀ w) (fit : Fit w₀) where
  -- a class ahead has its numbers yet
  pub first_ahead : at w.firsts p ≡ at w₀.firsts p
  unfolding pick
  first_ahead = s.firsts p ∙ rw (le-ltb p p (omega arith)) refl

  gone_ahead : at w.gones p ≡ at w₀.gones p
  unfolding pick
  gone_ahead = s.gones p ∙ rw (le-ltb p p (omega arith)) refl

  both_ahead : at w₀.firsts p ≢ 0 → (at w.pendings p ≡ at w₀.pendings p) × (at w.sizes p ≡ at w₀.sizes p)
  both_ahead u =
      s.others p (λ h. absurd (omega arith))
      (λ q h v e. u (subst (λ (z : ℕ). at w₀.firsts z ≡ 0) (sym e) (fit.apart q (omega arith) v).1))

  pub part_ahead : at w.firsts p ≢ 0 → at w.gones p ≤ at w.sizes p
  part_ahead u = let e = (both_ahead (λ z. u (first_ahead ∙ z))).1 in omega (arith, gone_ahead, e, (fit.within p l).1)

  module _ (w' : Numbers) (d : Parted k p w w') where
    whole : at w₀.firsts p ≡ 0 → Shared k (p + 1) w₀ w'
    unfolding pick
    whole e =
        rw (d.whole (first_ahead ∙ e))
        record {
          long = s.long;
          kept = λ q h u. elim (ℕ_discrete q p) [ yes z ↦ absurd (u (ap (at w₀.firsts) z ∙ e)) | no z ↦ s.kept q (omega arith) u ];
          new = λ q h u. elim (ℕ_discrete q p) [ yes z ↦ absurd (u (ap (at w₀.firsts) z ∙ e)) | no z ↦ s.new q (omega arith) u ];
          others = λ y a b. s.others y (λ m. a (omega arith)) (λ q m. b q (omega arith));
          firsts = λ q.
              elim (ℕ_discrete q p) [
                | yes z ↦ rw (less_last q p z) (ap (at w.firsts) z ∙ first_ahead ∙ e)
                | no z ↦ rw (less_more q p z) (s.firsts q)
              ];
          gones = λ q.
              elim (ℕ_discrete q p) [
                | yes z ↦ rw (less_last q p z, eq-eqb (at w₀.firsts q) 0 (ap (at w₀.firsts) z ∙ e)) (subst (λ (y : ℕ). at w.gones y ≡ at w₀.gones y) (sym z) gone_ahead)
                | no z ↦ rw (less_more q p z) (s.gones q)
              ];
        }

    split : at w₀.firsts p ≢ 0 → Shared k (p + 1) w₀ w'
    unfolding pick kept_pending new_pending
    split u = record {
      long = (
        two_long w.sizes w'.sizes _ _ _ _ (d.sizes some) ∙ s.long.0,
        one_long w.firsts w'.firsts p (d.firsts some) ∙ s.long.1,
        one_long w.gones w'.gones p (d.gones some) ∙ s.long.2,
        two_long w.pendings w'.pendings _ _ _ _ (d.pendings some) ∙ s.long.3,
      );
      kept = λ q h v.
          elim (ℕ_discrete q p) [
            | yes z ↦
                subst (λ (y : ℕ). (at w'.pendings y ≡ kept_pending k w₀ y) × (at w'.sizes y ≡ kept_of w₀ y)) (sym z)
                (two_last w.pendings w'.pendings _ _ p _ (d.pendings some) (omega (arith, s.long.3, fit.long.2)) ∙ kept_same, two_last w.sizes w'.sizes _ _ p _ (d.sizes some) (omega (arith, s.long.0)) ∙ size_same)
            | no z ↦ (let (a, b) = s.kept q (omega arith) v in (pending_as q z (omega (arith, above)) ∙ a, size_as q z (omega (arith, above)) ∙ b))
          ];
      new = λ q h v.
          elim (ℕ_discrete q p) [
            | yes z ↦
                subst (λ (y : ℕ). (at w'.pendings (at w₀.firsts y) ≡ new_pending k w₀ y) × (at w'.sizes (at w₀.firsts y) ≡ at w₀.gones y)) (sym z) (
                  ap (at w'.pendings) (sym first_ahead) ∙ two_first w.pendings w'.pendings _ _ p _ (d.pendings some) (omega (arith, below, first_ahead, s.long.3, fit.long.2)) other ∙ new_same,
                  ap (at w'.sizes) (sym first_ahead) ∙ two_first w.sizes w'.sizes _ _ p _ (d.sizes some) (omega (arith, below, first_ahead, s.long.0)) other ∙ gone_ahead,
                )
            | no z ↦
                (let (a, b) = s.new q (omega arith) v in
                let x : at w₀.firsts q ≢ p = λ e. u (subst (λ (y : ℕ). at w₀.firsts y ≡ 0) e (fit.apart q (omega arith) v).1) in
                let y : at w₀.firsts q ≢ at w₀.firsts p = λ e. z (fit.single q p (omega arith) l v e) in
                (pending_as (at w₀.firsts q) x y ∙ a, size_as (at w₀.firsts q) x y ∙ b))
          ];
      others = λ y a b.
          let x : y ≢ p = λ e. u (subst (λ (i : ℕ). at w₀.firsts i ≡ 0) e (a (omega arith))) in
          let z : y ≢ at w₀.firsts p = b p (omega arith) u in
          let (f, g) = s.others y (λ m. a (omega arith)) (λ q m. b q (omega arith)) in
          (pending_as y x z ∙ f, size_as y x z ∙ g);
      firsts = λ q.
          elim (ℕ_discrete q p) [
            | yes z ↦ rw (less_last q p z) (ap (at w'.firsts) z ∙ one_own w.firsts w'.firsts p (d.firsts some) (omega (arith, s.long.1, fit.long.0)))
            | no z ↦ rw (less_more q p z) (one_other w.firsts w'.firsts p (d.firsts some) q z ∙ s.firsts q)
          ];
      gones = λ q.
          elim (ℕ_discrete q p) [
            | yes z ↦
                rw (less_last q p z, ne_eqb (at w₀.firsts q) 0 (λ e. u (ap (at w₀.firsts) (sym z) ∙ e)))
                (ap (at w'.gones) z ∙ one_own w.gones w'.gones p (d.gones some) (omega (arith, s.long.2, fit.long.1)))
            | no z ↦ rw (less_more q p z) (one_other w.gones w'.gones p (d.gones some) q z ∙ s.gones q)
          ];
    }
      where
        some : at w.firsts p ≢ 0
        some e = u (sym first_ahead ∙ e)

        above : p < at w₀.firsts p
        above = (fit.apart p l u).0

        below : at w₀.firsts p < length w₀.sizes
        below = (fit.within p l).0

        other : at w.firsts p ≢ p
        other = omega (arith, above, first_ahead)

        kept_same : kept_pending k w p ≡ kept_pending k w₀ p
        kept_same = rw ((both_ahead u).0, (both_ahead u).1, gone_ahead) refl

        new_same : new_pending k w p ≡ new_pending k w₀ p
        new_same = rw ((both_ahead u).0, (both_ahead u).1, gone_ahead) refl

        size_same : kept_of w p ≡ kept_of w₀ p
        size_same = rw ((both_ahead u).1, gone_ahead) refl

        size_as : (i : ℕ) → i ≢ p → i ≢ at w₀.firsts p → at w'.sizes i ≡ at w.sizes i
        size_as i a b = two_other w.sizes w'.sizes _ _ p _ (d.sizes some) i a (omega (arith, b, first_ahead))

        pending_as : (i : ℕ) → i ≢ p → i ≢ at w₀.firsts p → at w'.pendings i ≡ at w.pendings i
        pending_as i a b = two_other w.pendings w'.pendings _ _ p _ (d.pendings some) i a (omega (arith, b, first_ahead))

    pub shared_more : Shared k (p + 1) w₀ w'
    shared_more = elim (ℕ_discrete (at w₀.firsts p) 0) [ yes e ↦ whole e | no u ↦ split u ]
