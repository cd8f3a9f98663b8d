-- The fresh lists in two parts of the work slice that are lent and come back. Rests on the laws of a part put back.
use mathlib.Core.Path.{◌≡◌, sym, ap, subst, ◌∙◌}
use mathlib.Core.List.{List, ◌++◌}
use Prim.Native.Nat.{ℕ, ◌+◌, ◌*◌, ◌-◌, ◌≤◌, ◌<◌}
use native.Mathlib.Omega.{arith}
use borrow.Rule.Slice.PartMut.{mid_of, post_of, put_mid, same_len_mid, mid_len, take_put, drop_put}
use lib.ListN.{length, take, get_or-append}
use lib.Seq.{get_or-take, get_or-drop, get_or-append-add, length-take-le}
use Rattle.counting.specs.Lists.{at}
use Rattle.counting.specs.Least.{name}
use Rattle.counting.proofs.Tabs.{tab-length, tab-at}
use Rattle.automaton.specs.Layers.{alike_kind, layer}
use Rattle.refining.specs.Fresh.{pending_of, fresh_of, fresh}
use Rattle.table.specs.Encoding.{machine_in}
use Rattle.layering.specs.Layered.{FirstNamed}
use Rattle.splitting.specs.Filling.{FreshFilled}
use Rattle.splitting.specs.Starting.{StartedIn}
use Rattle.splitting.specs.Work.{lists_in}
use Rattle.splitting.proofs.Places.{lists_are}

-- a list with ys put in the place of its numbers from a to e
module _ (a e : ℕ) (xs ys : List ℕ) (rising : a ≤ e) (within : e ≤ length xs) (many : length ys ≡ length (mid_of a (e - a) xs)) where
  abbrev put : List ℕ
  put = put_mid a (e - a) xs ys

  count_is : length ys ≡ e - a
  count_is = many ∙ mid_len a e xs within

  put_long : length put ≡ length xs
  put_long = same_len_mid a (e - a) xs ys many

  put_below : (i : ℕ) → i < a → at put i ≡ at xs i
  put_below i l = sym (get_or-take a put i 0 l) ∙ ap (λ (zs : List ℕ). at zs i) (take_put a (e - a) xs ys (omega arith)) ∙ get_or-take a xs i 0 l

  put_here : (x : ℕ) → a + x < e → at put (a + x) ≡ at ys x
  put_here x l =
      let f : length (take a xs) ≡ a = length-take-le a xs (omega arith) in
      subst (λ (m : ℕ). at put (m + x) ≡ at ys x) f (get_or-append-add (take a xs) (ys ++ post_of a (e - a) xs) x 0 ∙ get_or-append ys (post_of a (e - a) xs) 0 x (omega (arith, count_is)))

  put_beyond : (i : ℕ) → e ≤ i → at put i ≡ at xs i
  put_beyond i l =
      let f : e + (i - e) ≡ i = omega arith in
      subst (λ (j : ℕ). at put j ≡ at xs j) f
      (sym (get_or-drop e put (i - e) 0) ∙ ap (λ (zs : List ℕ). at zs (i - e)) (drop_put a e xs ys rising within count_is) ∙ get_or-drop e xs (i - e) 0)

module _ (n k : ℕ) (marks before names pending : List ℕ) (room : 8 * n ≤ length before) (named : FirstNamed marks n (mid_of (6 * n) (7 * n - 6 * n) before) names) where
  -- the work slice with the names put in
  abbrev mid : List ℕ
  mid = put_mid (6 * n) (7 * n - 6 * n) before names

  abbrev after : List ℕ
  after = put_mid (7 * n) (8 * n - 7 * n) mid pending

  mid_long : length mid ≡ length before
  mid_long = put_long (6 * n) (7 * n) before names (omega arith) (omega arith) named.long

  module _ (filled : FreshFilled n k marks (mid_of (7 * n) (8 * n - 7 * n) mid) pending) where
    ends : 8 * n ≤ length mid
    ends = omega (arith, mid_long)

    lists : (start : ℕ) (nexts : List ℕ) → lists_in n after ≡ fresh (machine_in n k start marks nexts)
    unfolding fresh fresh_of pending_of layer alike_kind
    lists start nexts =
        lists_are n after (fresh (machine_in n k start marks nexts)) (omega (arith, mid_long, put_long (7 * n) (8 * n) mid pending (omega arith) ends filled.long))
        (tab-length n _, tab-length n _)
        (λ x l.
        put_below (7 * n) (8 * n) mid pending (omega arith) ends filled.long (6 * n + x) (omega arith)
        ∙ put_here (6 * n) (7 * n) before names (omega arith) (omega arith) named.long x (omega arith)
        ∙ named.names x l
        ∙ sym (tab-at n (name (alike_kind (machine_in n k start marks nexts))) 0 x l))
        (λ x l. put_here (7 * n) (8 * n) mid pending (omega arith) ends filled.long x (omega arith) ∙ filled.pendings start nexts x l)

    pub started_in : StartedIn n k marks before after
    started_in = record {
      long = put_long (7 * n) (8 * n) mid pending (omega arith) ends filled.long ∙ mid_long;
      lists = lists;
      below = λ i l.
          put_below (7 * n) (8 * n) mid pending (omega arith) ends filled.long i (omega arith)
          ∙ put_below (6 * n) (7 * n) before names (omega arith) (omega arith) named.long i l;
      beyond = λ i l.
          put_beyond (7 * n) (8 * n) mid pending (omega arith) ends filled.long i l
          ∙ put_beyond (6 * n) (7 * n) before names (omega arith) (omega arith) named.long i (omega arith);
    }
