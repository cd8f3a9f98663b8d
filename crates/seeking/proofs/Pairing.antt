-- Laws of the search over pairs: what a sign leads a listed pair to is covered by the links, or is listed, or parts the states.
use mathlib.Core.Path.{◌≡◌, refl, sym, ap, ap₂, subst, ◌∙◌}
use mathlib.Core.Logic.{◌≢◌}
use mathlib.Core.List.{List, [], ◌∷◌, ◌++◌}
use Prim.Native.Nat.{ℕ, suc, ◌+◌, ◌*◌, ◌≤◌, ◌<◌}
use native.Mathlib.Decide.{ℕ_discrete}
use native.Mathlib.Omega.{arith}
use native.Mathlib.Nat.{mul-le-mul_right}
use borrow.Author.Tests.{eqb-true, eqb-false}
use lib.Dec.{eqb}
use lib.ListN.{length, set, length-set}
use lib.Seq.{get_or-set_same, get_or-set_other}
use Rattle.counting.specs.Lists.{at}
use Rattle.counting.specs.Counts.{all}
use Rattle.counting.proofs.Cases.{by_test}
use Rattle.counting.proofs.Tallies.{all_iff, all_false, count_cong}
use Rattle.lending.proofs.Memories.{columns_apart}
use Rattle.automaton.specs.Machine.{Machine, Lawful}
use Rattle.automaton.specs.Words.{Word, steps, ends}
use Rattle.automaton.proofs.Walks.{steps-append, steps_in}
use Rattle.seeking.specs.Order.{walk}
use Rattle.seeking.specs.Search.{word_of, Search, Covered}
use Rattle.seeking.proofs.Backwards.{word_signs, word_same, earlier_more, word_more}
use Rattle.seeking.proofs.Searching.{search_same, search_covers, search_lists, search_finds}
use Rattle.seeking.specs.Links.{Constant, roots, Together, Linked}
use Rattle.seeking.specs.Pairs.{left_of, right_of, from_of, by_of, pair_step, Parts, Beside, Paired, FoundAt}

-- a word leads a pair to the pair of the states that it leads the two to
pub pair-walk : (L R : Machine) (p q : ℕ) (w : List ℕ) → walk (pair_step L R) (p, q) w ≡ (steps L p w, steps R q w)
unfolding walk steps
pair-walk L R p q [] = refl
pair-walk L R p q (a ∷ w) = pair-walk L R (L.next p a) (R.next q a) w

-- columns stand behind the links
pub in_column : (n c i : ℕ) → n ≤ suc c * n + i
in_column n c i = omega (arith, mul-le-mul_right {m = 1} {n = suc c} n (omega arith))

-- the slice with a pair listed at i
abbrev pub listed : ℕ → ℕ → ℕ → ℕ → ℕ → ℕ → List ℕ → List ℕ
listed n i x y from by w = set (set (set (set w (1 * n + i) x) (2 * n + i) y) (3 * n + i) from) (4 * n + i) by

module _ (n i x y from by : ℕ) (w : List ℕ) (room : 5 * n ≤ length w) (within : i < n) where
  -- after one store, two and three
  abbrev w₁ : List ℕ
  w₁ = set w (1 * n + i) x

  abbrev w₂ : List ℕ
  w₂ = set w₁ (2 * n + i) y

  abbrev w₃ : List ℕ
  w₃ = set w₂ (3 * n + i) from

  pub listed_long : length (listed n i x y from by w) ≡ length w
  listed_long = simp length-set

  pub listed_left : left_of n (listed n i x y from by w) i ≡ x
  listed_left =
      get_or-set_other w₃ (4 * n + i) (1 * n + i) by 0 (omega arith)
      ∙ get_or-set_other w₂ (3 * n + i) (1 * n + i) from 0 (omega arith)
      ∙ get_or-set_other w₁ (2 * n + i) (1 * n + i) y 0 (omega arith)
      ∙ get_or-set_same w (1 * n + i) x 0 (omega arith)

  pub listed_right : right_of n (listed n i x y from by w) i ≡ y
  listed_right =
      get_or-set_other w₃ (4 * n + i) (2 * n + i) by 0 (omega arith)
      ∙ get_or-set_other w₂ (3 * n + i) (2 * n + i) from 0 (omega arith)
      ∙ get_or-set_same w₁ (2 * n + i) y 0 (simp length-set (omega arith))

  pub listed_from : from_of n (listed n i x y from by w) i ≡ from
  listed_from = get_or-set_other w₃ (4 * n + i) (3 * n + i) by 0 (omega arith) ∙ get_or-set_same w₂ (3 * n + i) from 0 (simp length-set (omega arith))

  pub listed_by : by_of n (listed n i x y from by w) i ≡ by
  listed_by = get_or-set_same w₃ (4 * n + i) by 0 (simp length-set (omega arith))

  pub listed_other : (j : ℕ) → j ≢ 1 * n + i → j ≢ 2 * n + i → j ≢ 3 * n + i → j ≢ 4 * n + i → at (listed n i x y from by w) j ≡ at w j
  listed_other j a b c d =
      get_or-set_other w₃ (4 * n + i) j by 0 d ∙ get_or-set_other w₂ (3 * n + i) j from 0 c ∙ get_or-set_other w₁ (2 * n + i) j y 0 b ∙ get_or-set_other w (1 * n + i) j x 0 a

module _ (L R : Machine) (lawful : Lawful L) (lawful-too : Lawful R) (offset n : ℕ) (b : Beside L R offset n) where
  module _ (p q : ℕ) (work : List ℕ) (pairs head sign : ℕ) (s : Paired L R offset n p q work pairs head sign) where
    word_in : (i : ℕ) → i < pairs → Word L.signs (word_of (from_of n work) (by_of n work) i)
    word_in = word_signs (from_of n work) (by_of n work) pairs s.search.earlier L.signs s.search.signs

    pub left_in : (i : ℕ) → i < pairs → left_of n work i < L.size
    left_in i l = rw (s.left i l) (steps_in L lawful p _ s.p_in (word_in i l))

    pub right_in : (i : ℕ) → i < pairs → right_of n work i < R.size
    right_in i l = rw (s.right i l) (steps_in R lawful-too q _ s.q_in (subst (λ (k : ℕ). Word k (word_of (from_of n work) (by_of n work) i)) (sym b.signs) (word_in i l)))

    node_is : (i : ℕ) → i < pairs → walk (pair_step L R) (p, q) (word_of (from_of n work) (by_of n work) i) ≡ (left_of n work i, right_of n work i)
    node_is i l = pair-walk L R p q _ ∙ ap₂ (λ (x y : ℕ). (x, y)) (sym (s.left i l)) (sym (s.right i l))

    module _ (before : head < pairs) (in-signs : sign < L.signs) where
      abbrev x : ℕ
      x = L.next (left_of n work head) sign

      abbrev y : ℕ
      y = R.next (right_of n work head) sign

      pub x_in : x < L.size
      x_in = lawful.next_in (left_of n work head) sign (left_in head before) in-signs

      pub y_in : y < R.size
      y_in = lawful-too.next_in (right_of n work head) sign (right_in head before) (omega (arith, b.signs))

      pub joint_in : (x < n) × (offset + y < n)
      joint_in = (omega (arith, x_in, b.left_in), omega (arith, y_in, b.right_in))

      -- what the sign leads to
      leads-to : pair_step L R (walk (pair_step L R) (p, q) (word_of (from_of n work) (by_of n work) head)) sign ≡ (x, y)
      leads-to = ap (λ (z : ℕ × ℕ). pair_step L R z sign) (node_is head before)

      -- states that are joined are covered by the pairs that join them
      covered : ((g : ℕ → ℕ) → Constant g n work → g x ≡ g (offset + y)) → Covered (pair_step L R) (Parts L R) L.signs (p, q) (from_of n work) (by_of n work) pairs (x, y)
      covered h = record { node = λ u w g. found u w (rw (pair-walk L R x y u) at g) }
        where
          found : (u : List ℕ) → Word L.signs u → ends L x u ≢ ends R y u
              → (j : ℕ) × (j < pairs) × Parts L R (walk (pair_step L R) (walk (pair_step L R) (p, q) (word_of (from_of n work) (by_of n work) j)) u)
          found u w d =
              let (g, on-left, on-right) = b.one u in
              by_test (all pairs (λ i. eqb (g (left_of n work i)) (g (offset + right_of n work i))))
              (λ t. absurd (d (sym (on-left x x_in) ∙ h g (s.joined g (λ i l. eqb-true _ _ ((all_iff pairs _).0 t i l))) ∙ on-right y y_in)))
              (λ t.
              let (j, l, e) = all_false pairs _ t in (
                j,
                l,
                rw (node_is j l, pair-walk L R (left_of n work j) (right_of n work j) u)
                    (λ f. eqb-false _ _ e (on-left (left_of n work j) (left_in j l) ∙ f ∙ sym (on-right (right_of n work j) (right_in j l)))),
              ))

      -- the two were joined before: the search goes on to the next sign
      pub looked_covered : (after : List ℕ) → Together n x (offset + y) work after → Paired L R offset n p q after pairs head (suc sign)
      looked_covered after t = record {
        p_in = s.p_in;
        q_in = s.q_in;
        low = t.low;
        joined = λ g h. (t.constant g (s.joined g (λ i l. ap g (sym (column 0 i)) ∙ h i l ∙ ap (λ (z : ℕ). g (offset + z)) (column 1 i)))).0;
        few = omega (arith, t.same, s.few);
        left = λ i l. column 0 i ∙ s.left i l ∙ ap (steps L p) (words i l);
        right = λ i l. column 1 i ∙ s.right i l ∙ ap (steps R q) (words i l);
        search =
            search_same (pair_step L R) (Parts L R) L.signs (p, q) (from_of n work) (by_of n work) (from_of n after) (by_of n after) pairs head (suc sign) columns
            (search_covers (pair_step L R) (Parts L R) L.signs (p, q) (from_of n work) (by_of n work) pairs head sign s.search before in-signs
            (subst (Covered (pair_step L R) (Parts L R) L.signs (p, q) (from_of n work) (by_of n work) pairs) (sym leads-to) (covered (λ g c. (t.constant g c).1))));
      }
        where
          column : (c i : ℕ) → at after (suc c * n + i) ≡ at work (suc c * n + i)
          column c i = t.beyond (suc c * n + i) (in_column n c i)

          columns : (i : ℕ) → i < pairs → (from_of n work i ≡ from_of n after i) × (by_of n work i ≡ by_of n after i)
          columns i l = (sym (column 2 i), sym (column 3 i))

          words : (i : ℕ) → i < pairs → word_of (from_of n work) (by_of n work) i ≡ word_of (from_of n after) (by_of n after) i
          words = word_same (from_of n work) (by_of n work) pairs s.search.earlier (from_of n after) (by_of n after) columns

      -- the two are joined now, and the pair is listed
      module _ (w : List ℕ) (t : Linked n x (offset + y) work w) (room : 5 * n ≤ length w) where
        abbrev after : List ℕ
        after = listed n pairs x y head sign w

        pub place_in : pairs < n
        place_in = omega (arith, t.fewer, s.few)

        link_same : (z : ℕ) → z < n → at after z ≡ at w z
        link_same z l = listed_other n pairs x y head sign w room place_in z (omega (arith, place_in)) (omega (arith, place_in)) (omega (arith, place_in)) (omega (arith, place_in))

        pub listed_column : (c i : ℕ) → i < pairs → at after (suc c * n + i) ≡ at work (suc c * n + i)
        listed_column c i l =
            let other : (d : ℕ) → suc c * n + i ≢ d * n + pairs = λ d. columns_apart n (suc c) d i pairs (omega (arith, place_in)) place_in (omega arith) in
            listed_other n pairs x y head sign w room place_in (suc c * n + i) (other 1) (other 2) (other 3) (other 4) ∙ t.beyond (suc c * n + i) (in_column n c i)

        columns : (i : ℕ) → i < pairs → (from_of n work i ≡ from_of n after i) × (by_of n work i ≡ by_of n after i)
        columns i l = (sym (listed_column 2 i l), sym (listed_column 3 i l))

        words : (i : ℕ) → i < pairs → word_of (from_of n work) (by_of n work) i ≡ word_of (from_of n after) (by_of n after) i
        words = word_same (from_of n work) (by_of n work) pairs s.search.earlier (from_of n after) (by_of n after) columns

        carried : Search (pair_step L R) (Parts L R) L.signs (p, q) (from_of n after) (by_of n after) pairs head sign
        carried = search_same (pair_step L R) (Parts L R) L.signs (p, q) (from_of n work) (by_of n work) (from_of n after) (by_of n after) pairs head sign columns s.search

        abbrev origin : from_of n after pairs ≡ head
        origin = listed_from n pairs x y head sign w room place_in

        abbrev by_sign : by_of n after pairs ≡ sign
        by_sign = listed_by n pairs x y head sign w room place_in

        own : word_of (from_of n after) (by_of n after) pairs ≡ word_of (from_of n after) (by_of n after) head ++ sign ∷ []
        own = word_more (from_of n after) (by_of n after) pairs head sign carried.earlier origin by_sign before

        -- the same node as before, and what the sign leads to
        led : pair_step L R (walk (pair_step L R) (p, q) (word_of (from_of n after) (by_of n after) head)) sign ≡ (x, y)
        led = ap (λ (v : List ℕ). pair_step L R (walk (pair_step L R) (p, q) v) sign) (sym (words head before)) ∙ leads-to

        own_left : x ≡ steps L p (word_of (from_of n after) (by_of n after) pairs)
        unfolding steps
        own_left =
            ap (λ (z : ℕ). L.next z sign) (s.left head before ∙ ap (steps L p) (words head before))
            ∙ sym (steps-append L p (word_of (from_of n after) (by_of n after) head) (sign ∷ []))
            ∙ ap (steps L p) (sym own)

        own_right : y ≡ steps R q (word_of (from_of n after) (by_of n after) pairs)
        unfolding steps
        own_right =
            ap (λ (z : ℕ). R.next z sign) (s.right head before ∙ ap (steps R q) (words head before))
            ∙ sym (steps-append R q (word_of (from_of n after) (by_of n after) head) (sign ∷ []))
            ∙ ap (steps R q) (sym own)

        roots_same : roots n after ≡ roots n w
        unfolding roots
        roots_same = count_cong n _ _ (λ z l. ap (λ (v : ℕ). eqb v z) (link_same z l))

        pub looked_parts : L.kind x ≢ R.kind y → FoundAt L R n p q after pairs
        looked_parts d = record {
          within = place_in;
          earlier = earlier_more (from_of n after) (by_of n after) pairs carried.earlier head sign origin by_sign before;
          leads = rw own (search_finds (pair_step L R) (Parts L R) L.signs (p, q) (from_of n after) (by_of n after) pairs head sign carried before in-signs (subst (Parts L R) (sym led) d));
        }

        pub looked_lists : L.kind x ≡ R.kind y → Paired L R offset n p q after (suc pairs) head (suc sign)
        looked_lists e = record {
          p_in = s.p_in;
          q_in = s.q_in;
          low = λ z l. rw (link_same z l) (t.low z l);
          joined = λ g h z l.
              rw (link_same z l)
              (t.constant g
              (s.joined g (λ i m. ap g (sym (listed_column 0 i m)) ∙ h i (omega arith) ∙ ap (λ (z : ℕ). g (offset + z)) (listed_column 1 i m)))
              (ap g (sym (listed_left n pairs x y head sign w room place_in)) ∙ h pairs (omega arith) ∙ ap (λ (z : ℕ). g (offset + z)) (listed_right n pairs x y head sign w room place_in))
              z l);
          few = omega (arith, t.fewer, s.few, roots_same);
          left = λ i l. elim (ℕ_discrete i pairs) [ yes m ↦ rw m (listed_left n pairs x y head sign w room place_in ∙ own_left) | no m ↦ listed_column 0 i (omega arith) ∙ s.left i (omega arith) ∙ ap (steps L p) (words i (omega arith)) ];
          right = λ i l. elim (ℕ_discrete i pairs) [ yes m ↦ rw m (listed_right n pairs x y head sign w room place_in ∙ own_right) | no m ↦ listed_column 1 i (omega arith) ∙ s.right i (omega arith) ∙ ap (steps R q) (words i (omega arith)) ];
          search =
              search_lists (pair_step L R) (Parts L R) L.signs (p, q) (from_of n after) (by_of n after) pairs head sign carried before in-signs origin by_sign
              (subst (λ (z : ℕ × ℕ). ¬ Parts L R z) (sym led) (λ d. d e));
        }
