-- The search over pairs begins, turns to the next pair, and leaves what is not its own as it was.
use mathlib.Core.Path.{◌≡◌, refl, sym, ap, ◌∙◌}
use mathlib.Core.Logic.{◌≢◌}
use mathlib.Core.List.{List, []}
use Prim.Native.Nat.{ℕ, suc, ◌+◌, ◌*◌, ◌≤◌, ◌<◌}
use native.Mathlib.Omega.{arith}
use lib.Dec.{eqb}
use lib.ListN.{length}
use Rattle.counting.specs.Lists.{at}
use Rattle.counting.proofs.Tallies.{count_most, count_cong}
use Rattle.automaton.specs.Machine.{Machine}
use Rattle.automaton.specs.Words.{Word, steps, ends}
use Rattle.seeking.specs.Order.{number, walk}
use Rattle.seeking.specs.Search.{word_in}
use Rattle.seeking.specs.Links.{roots, Together, Linked}
use Rattle.seeking.specs.Pairs.{from_of, by_of, pair_step, Parts, Beside, Paired, FoundAt, Kept}
use Rattle.seeking.proofs.Numbers.{leads-least}
use Rattle.seeking.proofs.Searching.{search_begins, search_turns}
use Rattle.seeking.proofs.Pairing.{listed, listed_long, listed_left, listed_right, listed_other}

-- after the last sign of a pair comes the first of the next
pub paired_turns : (L R : Machine) (offset n p q : ℕ) (work : List ℕ) (pairs head : ℕ) → Paired L R offset n p q work pairs head L.signs → Paired L R offset n p q work pairs (suc head) 0
paired_turns L R offset n p q work pairs head s = record {
  p_in = s.p_in;
  q_in = s.q_in;
  low = s.low;
  joined = s.joined;
  few = s.few;
  left = s.left;
  right = s.right;
  search = search_turns (pair_step L R) (Parts L R) L.signs (p, q) (from_of n work) (by_of n work) pairs head s.search;
}

pub kept_none : (n pairs : ℕ) (w : List ℕ) → Kept n pairs w w
kept_none n pairs w = record { long = refl; states = λ i l. (refl, refl); beyond = λ i l. refl }

pub kept_over : (n few pairs : ℕ) (u v w : List ℕ) → few ≤ pairs → Kept n few u v → Kept n pairs v w → Kept n few u w
kept_over n few pairs u v w h a b = record {
  long = b.long ∙ a.long;
  states = λ i l. let x = b.states i (omega arith) in let y = a.states i l in (x.0 ∙ y.0, x.1 ∙ y.1);
  beyond = λ i l. b.beyond i l ∙ a.beyond i l;
}

-- from links that join nothing, the two states joined: one state, or one pair
module _ (L R : Machine) (offset n : ℕ) (b : Beside L R offset n) (p q : ℕ) (p_in : p < L.size) (q_in : q < R.size) (laid : List ℕ) (own : (z : ℕ) → z < n → at laid z ≡ z) where
  -- one state: every word ends in one kind from both
  pub begun_together : (w : List ℕ) → Together n p (offset + q) laid w → (u : List ℕ) → Word L.signs u → ends L p u ≡ ends R q u
  begun_together w t u h =
      let (g, on-left, on-right) = b.one u in
      sym (on-left p p_in) ∙ (t.constant g (λ z l. ap g (own z l))).1 ∙ on-right q q_in

  module _ (w : List ℕ) (t : Linked n p (offset + q) laid w) (room : 5 * n ≤ length w) where
    -- the pair listed
    abbrev stored : List ℕ
    stored = listed n 0 p q 0 0 w

    some : 0 < n
    some = omega (arith, b.left_in, p_in)

    link_same : (z : ℕ) → z < n → at stored z ≡ at w z
    link_same z l = listed_other n 0 p q 0 0 w room some z (omega (arith, some)) (omega (arith, some)) (omega (arith, some)) (omega (arith, some))

    roots_fewer : 1 + roots n stored ≤ n
    unfolding roots
    roots_fewer =
        omega (
          arith,
          t.fewer,
          count_most n (λ z. eqb (at laid z) z),
          count_cong n (λ z. eqb (at stored z) z) (λ z. eqb (at w z) z) (λ z l. ap (λ (v : ℕ). eqb v z) (link_same z l)),
        )

    -- one pair whose kinds are equal: the search begins
    begins : L.kind p ≡ R.kind q → Paired L R offset n p q stored 1 0 0
    unfolding steps word_in
    begins e = record {
      p_in = p_in;
      q_in = q_in;
      low = λ z l. rw (link_same z l) (t.low z l);
      joined = λ g h z l.
          rw (link_same z l)
          (t.constant g (λ z l. ap g (own z l))
          (ap g (sym (listed_left n 0 p q 0 0 w room some)) ∙ h 0 (omega arith) ∙ ap (λ (z : ℕ). g (offset + z)) (listed_right n 0 p q 0 0 w room some))
          z l);
      few = roots_fewer;
      left = λ i l. let z : i ≡ 0 = omega arith in rw z (listed_left n 0 p q 0 0 w room some);
      right = λ i l. let z : i ≡ 0 = omega arith in rw z (listed_right n 0 p q 0 0 w room some);
      search = search_begins (pair_step L R) (Parts L R) L.signs (p, q) (from_of n stored) (by_of n stored) (λ d. d e);
    }

    -- one pair whose kinds differ: the empty word
    parts : L.kind p ≢ R.kind q → FoundAt L R n p q stored 0
    unfolding word_in walk number
    parts d = record {
      within = some;
      earlier = λ i l. absurd (omega arith);
      leads = leads-least (pair_step L R) (Parts L R) L.signs (p, q) [] tt d (λ v y g. omega arith);
    }

    keeps : (before : List ℕ) → length laid ≡ length before → ((i : ℕ) → n ≤ i → at laid i ≡ at before i) → Kept n 0 before stored
    keeps before long same = record {
      long = listed_long n 0 p q 0 0 w room some ∙ t.long ∙ long;
      states = λ i l. absurd (omega arith);
      beyond = λ i l.
          listed_other n 0 p q 0 0 w room some i (omega (arith, some)) (omega (arith, some)) (omega (arith, some)) (omega (arith, some))
          ∙ t.beyond i (omega arith)
          ∙ same i (omega arith);
    }

    module _ (after : List ℕ) (is : after ≡ stored) where
      pub begun_paired : L.kind p ≡ R.kind q → Paired L R offset n p q after 1 0 0
      begun_paired e = rw is (begins e)

      pub begun_parted : L.kind p ≢ R.kind q → FoundAt L R n p q after 0
      begun_parted d = rw is (parts d)

      pub begun_kept : (before : List ℕ) → length laid ≡ length before → ((i : ℕ) → n ≤ i → at laid i ≡ at before i) → Kept n 0 before after
      begun_kept before long same = rw is (keeps before long same)
