-- Laws of links: on the way to a root, and joining two states.
use mathlib.Core.Path.{◌≡◌, refl, sym, ap, ◌∙◌}
use mathlib.Core.Logic.{◌≢◌}
use mathlib.Core.Bool.{true, false}
use mathlib.Core.List.{List}
use Prim.Native.Nat.{ℕ, ◌≤◌, ◌<◌}
use native.Mathlib.Omega.{arith}
use borrow.Author.Tests.{eq-eqb, ne_eqb, eqb-true}
use lib.Dec.{eqb}
use lib.ListN.{length, set, length-set}
use lib.Seq.{get_or-set_other}
use Rattle.counting.specs.Lists.{at}
use Rattle.counting.proofs.Tallies.{count_cong, count_more}
use Rattle.lending.proofs.Memories.{set_each}
use Rattle.seeking.specs.Links.{Low, roots, Climbed, Together, Linked, Joined}

pub climbed_none : (n x : ℕ) (w : List ℕ) → Low n w → x < n → Climbed n x w w x
climbed_none n x w low h = record {
  long = refl;
  within = h;
  low = low;
  same = λ z l. refl;
  constant = λ g c. (c, refl);
  beyond = λ i l. refl;
}

-- a link shortened by one, and gone along
pub climbed_more : (n x : ℕ) (before w : List ℕ) (r : ℕ) → n ≤ length w → Climbed n x before w r → at w r ≢ r
    → Climbed n x before (set w r (at w (at w r))) (at w (at w r))
climbed_more n x before w r room c u = record {
  long = length-set w r over ∙ c.long;
  within = omega (arith, c.within, up_low, over_low);
  low = set_each (λ z v. v ≤ z) w r over n stored (omega (arith, up_low, over_low)) (λ z l d. c.low z l);
  same = set_each (λ z v. eqb v z ≡ eqb (at before z) z) w r over n stored (ne_eqb over r (omega (arith, up_low, over_low, u)) ∙ sym (ne_eqb (at w r) r u) ∙ c.same r c.within) (λ z l d. c.same z l);
  constant = λ g h.
      let k = c.constant g h in
      let same : g over ≡ g r = k.0 (at w r) (omega (arith, c.within, up_low)) ∙ k.0 r c.within in
      (set_each (λ z v. g v ≡ g z) w r over n stored same (λ z l d. k.0 z l), same ∙ k.1);
  beyond = λ i l. get_or-set_other w r i over 0 (omega (arith, c.within)) ∙ c.beyond i l;
}
  where
    over : ℕ
    over = at w (at w r)

    up_low : at w r ≤ r
    up_low = c.low r c.within

    over_low : over ≤ at w r
    over_low = c.low (at w r) (omega (arith, c.within, up_low))

    stored : r < length w
    stored = omega (arith, c.within)

-- a state is joined to itself
pub joined_self : (n x y : ℕ) (w : List ℕ) → Low n w → x ≡ y → Together n x y w w
joined_self n x y w low e = record { long = refl; low = low; same = refl; constant = λ g c. (c, ap g e); beyond = λ i l. refl }

module _ (n x y : ℕ) (before w after : List ℕ) (one other : ℕ) (first : Climbed n x before w one) (second : Climbed n y w after other) where
  roots_same : roots n after ≡ roots n before
  unfolding roots
  roots_same = count_cong n _ _ (λ z l. second.same z l ∙ first.same z l)

  -- one root: the two were joined before
  pub joined_before : one ≡ other → Together n x y before after
  joined_before e = record {
    long = second.long ∙ first.long;
    low = second.low;
    same = roots_same;
    constant = λ g h.
        let k = first.constant g h in
        let m = second.constant g k.0 in
        (m.0, sym k.1 ∙ ap g e ∙ m.1);
    beyond = λ i l. second.beyond i l ∙ first.beyond i l;
  }

  -- two roots, the greater linked to the smaller
  pub joined_now : (a b : ℕ) → n ≤ length after → a < n → b < a → at after a ≡ a → ((g : ℕ → ℕ) → g one ≡ g other → g b ≡ g a) → Linked n x y before (set after a b)
  unfolding roots
  joined_now a b room l h root links = record {
    long = length-set after a b ∙ second.long ∙ first.long;
    low = set_each (λ z v. v ≤ z) after a b n (omega arith) (omega arith) (λ z m d. second.low z m);
    fewer =
        omega (
          arith,
          roots_same,
          count_more n (λ z. eqb (at (set after a b) z) z) (λ z. eqb (at after z) z)
              (set_each (λ z v. eqb v z ≡ true → eqb (at after z) z ≡ true) after a b n (omega arith) (λ e. eq-eqb (at after a) a root) (λ z m d e. e))
              a l (set_each (λ z v. z ≡ a → eqb v z ≡ false) after a b n (omega arith) (λ e. ne_eqb b a (omega arith)) (λ z m d e. absurd (d e)) a l refl) (eq-eqb (at after a) a root),
        );
    constant = λ g c e.
        let k = first.constant g c in
        let m = second.constant g k.0 in
        set_each (λ z v. g v ≡ g z) after a b n (omega arith) (links g (k.1 ∙ e ∙ sym m.1)) (λ z l d. m.0 z l);
    beyond = λ i m. get_or-set_other after a i b 0 (omega arith) ∙ second.beyond i m ∙ first.beyond i m;
  }

  -- the first root is one still
  pub root_still : at w one ≡ one → at after one ≡ one
  root_still root = eqb-true (at after one) one (second.same one first.within ∙ eq-eqb (at w one) one root)

-- the two ways out
pub were_joined : {n x y : ℕ} {before after : List ℕ} → Together n x y before after → Joined n x y before after false
were_joined t = record { linked = λ e. let z : ◌≡◌ {A = ℕ} 0 1 = cc in absurd (omega arith); together = λ e. t }

pub are_joined : {n x y : ℕ} {before after : List ℕ} → Linked n x y before after → Joined n x y before after true
are_joined t = record { linked = λ e. t; together = λ e. let z : ◌≡◌ {A = ℕ} 0 1 = cc in absurd (omega arith) }
