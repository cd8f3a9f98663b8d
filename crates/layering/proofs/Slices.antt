-- The laws of the test and of the rounds at their places in the one work slice, from those of the six lists that are its parts.
use mathlib.Core.Path.{◌≡◌, sym, ap, ◌∙◌}
use mathlib.Core.Logic.{◌↔◌}
use mathlib.Core.Bool.{Bool, true, false}
use mathlib.Core.List.{List, ◌++◌}
use Prim.Native.Nat.{ℕ, suc, ◌+◌, ◌*◌, ◌≤◌, ◌<◌}
use native.Mathlib.Decide.{dec_lt}
use native.Mathlib.Omega.{arith}
use borrow.Author.Tests.{eq-eqb, eqb-true}
use lib.Dec.{eqb}
use lib.ListN.{length, take, drop, length-take}
use lib.Seq.{get_or-take, length-take-le}
use Rattle.std.proofs.lemmas.List.{get_or_past, take-append-drop, drop-drop}
use Rattle.counting.specs.Lists.{at}
use Rattle.counting.proofs.Parts.{part_at, part_long, part_is, part_same}
use Rattle.counting.proofs.Tallies.{all_iff}
use Rattle.automaton.specs.Machine.{Machine, Lawful}
use Rattle.automaton.specs.Layers.{alike_next, rounds}
use Rattle.layering.specs.Work.{this, Numbers, bucket, same_nexts, New, Done, Rounded, Moved}
use Rattle.layering.specs.Layered.{AtLayer, InLayer}
use Rattle.layering.specs.Slices.{head, link, NewIn, DoneIn, RoundedIn, MovedIn}
use Rattle.layering.proofs.Buckets.{bucket_below, bucket_same, same_iff}
use Rattle.layering.proofs.Deepening.{quiet_settled, busy_unsettled, stays, deeper}
use Rattle.layering.proofs.Joining.{Parts, parts_hold, parts_held}

-- the six lists, as parts of the slice
abbrev pub numbers_in : ℕ → List ℕ → Numbers
numbers_in n work = record {
  names = take n work;
  laters = take n (drop n work);
  links = take n (drop (2 * n) work);
  births = take n (drop (3 * n) work);
  parents = take n (drop (4 * n) work);
  heads = take n (drop (5 * n) work);
}

-- the first part
front_is : (n : ℕ) (work xs : List ℕ) → n ≤ length work → length xs ≡ n → ((x : ℕ) → x < n → this work x ≡ at xs x) → take n work ≡ xs
front_is n work xs room long same = part_is n 0 work xs (omega arith) long (λ x l. let e : 0 + x ≡ x = omega arith in ap (at work) e ∙ same x l)

module _ (n : ℕ) (work : List ℕ) (room : 6 * n ≤ length work) where
  -- a part, and the next
  peeled : (from to : ℕ) → from + n ≡ to → drop from work ≡ take n (drop from work) ++ drop to work
  peeled from to e = sym (ap (λ (xs : List ℕ). take n (drop from work) ++ xs) (ap (λ (m : ℕ). drop m work) (sym e) ∙ sym (drop-drop n from work)) ∙ take-append-drop n (drop from work))

  -- the slice is its six parts, and the rest
  parts_in : Parts n work (take n work) (take n (drop n work)) (take n (drop (2 * n) work)) (take n (drop (3 * n) work)) (take n (drop (4 * n) work)) (take n (drop (5 * n) work)) (drop (6 * n) work)
  parts_in = record {
    whole =
        peeled 0 n (omega arith)
        ∙ behind (take n work)
        (peeled n (2 * n) (omega arith)
        ∙ behind (take n (drop n work))
        (peeled (2 * n) (3 * n) (omega arith)
        ∙ behind (take n (drop (2 * n) work))
        (peeled (3 * n) (4 * n) (omega arith)
        ∙ behind (take n (drop (3 * n) work))
        (peeled (4 * n) (5 * n) (omega arith)
        ∙ behind (take n (drop (4 * n) work))
        (peeled (5 * n) (6 * n) (omega arith))))));
    long = length-take-le n work (omega arith);
    sized = record {
      long-laters = part_long n n work (omega arith);
      long-links = part_long n (2 * n) work (omega arith);
      long-births = part_long n (3 * n) work (omega arith);
      long-parents = part_long n (4 * n) work (omega arith);
      long-heads = part_long n (5 * n) work (omega arith);
    };
  }
    where
      behind : (xs : List ℕ) {ys zs : List ℕ} → ys ≡ zs → xs ++ ys ≡ xs ++ zs
      behind xs e = ap (λ (t : List ℕ). xs ++ t) e

module _ (M : Machine) (lawful : Lawful M) (work : List ℕ) where
  -- alike in the next layer
  abbrev same : ℕ → ℕ → Bool
  same y x = alike_next M (take M.size work) y x

  names : (x : ℕ) → x < M.size → at (take M.size work) x ≡ this work x
  names x l = get_or-take M.size work x 0 l

  -- the tests look at the names of states alone
  nexts_as : (xs ys : List ℕ) → ((x : ℕ) → x < M.size → at xs x ≡ at ys x) → (y x : ℕ) → y < M.size → x < M.size → same_nexts M xs y x ≡ true → same_nexts M ys y x ≡ true
  unfolding same_nexts
  nexts_as xs ys e y x l m t =
      (all_iff M.signs _).1 (λ a b. eq-eqb _ _ (sym (e (M.next y a) (lawful.next_in y a l b)) ∙ eqb-true _ _ ((all_iff M.signs (λ a. eqb (at xs (M.next y a)) (at xs (M.next x a)))).0 t a b) ∙ e (M.next x a) (lawful.next_in x a m b)))

  -- the test of code: one name in this layer, and next states of the same names
  pub same_iff_in : (y x : ℕ) → y < M.size → x < M.size → (same y x ≡ true) ↔ ((this work y ≡ this work x) × (same_nexts M work y x ≡ true))
  same_iff_in y x l m =
      let iff = same_iff M (take M.size work) y x in (
        (λ e. let (u, v) = iff.0 e in (sym (names y l) ∙ u ∙ names x m, nexts_as (take M.size work) work names y x l m v)),
        (λ h. iff.1 (names y l ∙ h.0 ∙ sym (names x m), nexts_as work (take M.size work) (λ z k. sym (names z k)) y x l m h.1)),
      )

  buckets : (s : ℕ) → s < M.size → bucket M (take M.size work) s ≡ bucket M work s
  buckets = bucket_same M lawful work (take M.size work) names

  module _ (q : ℕ) (most : q ≤ M.size) where
    abbrev lists : Numbers
    lists = numbers_in M.size work

    -- a new name of the slice is one of the lists
    listed : (s : ℕ) → NewIn M.size work q s → New lists.names lists.laters q s
    listed s h =
        let k : s < q = h.below in
        record { below = k; named = part_at M.size M.size work s (omega arith) ∙ h.named; fresh = λ e. h.fresh (sym (names s (omega arith)) ∙ e) }

    placed : (s : ℕ) → New lists.names lists.laters q s → NewIn M.size work q s
    placed s h =
        let k : s < q = h.below in
        record { below = k; named = sym (part_at M.size M.size work s (omega arith)) ∙ h.named; fresh = λ e. h.fresh (names s (omega arith) ∙ e) }

    done_in : DoneIn M work q → Done M lists q
    done_in d = record {
      right = λ s l. part_at M.size M.size work s (omega arith) ∙ d.right s l;
      heads = λ b l z.
          (let e : at lists.heads b ≡ head M.size work b = part_at M.size (5 * M.size) work b l in
          let (g, f) = d.heads b l (λ y. z (e ∙ y)) in
          rw e (listed _ g, buckets (head M.size work b) (omega (arith, g.below)) ∙ f));
      links = λ s h z.
          (let k : s < q = h.below in
          let e : at lists.links s ≡ link M.size work s = part_at M.size (2 * M.size) work s (omega arith) in
          let (o, g, f) = d.links s (placed s h) (λ y. z (e ∙ y)) in
          rw e (o, listed _ g, buckets (link M.size work s) (omega (arith, g.below)) ∙ f ∙ sym (buckets s (omega arith))));
      greatest = λ s h.
          (let k : s < q = h.below in
          let l : s < M.size = omega arith in
          omega (arith, d.greatest s (placed s h), ap (at lists.heads) (buckets s l), part_at M.size (5 * M.size) work (bucket M work s) (bucket_below M work s s l)));
      next = λ r s g h e k.
          (let l : r < q = g.below in
          omega (arith, d.next r s (placed r g) (placed s h) (sym (buckets r (omega arith)) ∙ e ∙ buckets s (omega arith)) k, part_at M.size (2 * M.size) work r (omega arith)));
    }

module _ (M : Machine) (lawful : Lawful M) (w v : List ℕ) (i : ℕ) (t : Bool) (room : 6 * M.size ≤ length w) (h : InLayer M i w) (r : RoundedIn M w v (suc i) M.size t) where
  abbrev n : ℕ
  n = M.size

  abbrev before : Numbers
  before = numbers_in n w

  abbrev after : Numbers
  after = numbers_in n v

  -- the round, in the lists
  rounded : Rounded M before after (suc i) n t
  rounded = record {
    same = front_is n v before.names (omega (arith, r.long)) (length-take-le n w (omega arith)) (λ x l. r.same x l ∙ sym (this_before x l));
    done = done_in M lawful v n (omega arith) r.done;
    fresh = λ c l a b.
        (let (e, f) = r.fresh c l (sym (later c l) ∙ a) (λ d. b (this_before c l ∙ d)) in
        (part_at n (3 * n) v c l ∙ e, part_at n (4 * n) v c l ∙ f ∙ sym (this_before c l)));
    stale = λ c a.
        elim (dec_lt c n) [
          | yes l ↦
              (let (e, f) = r.stale c l (λ k d. sym (this_before c l) ∙ a k (later c l ∙ d)) in
              (part_at n (3 * n) v c l ∙ e ∙ sym (part_at n (3 * n) w c l), part_at n (4 * n) v c l ∙ f ∙ sym (part_at n (4 * n) w c l)))
          | no l ↦ (past (drop (3 * n) v) (drop (3 * n) w) c (omega arith), past (drop (4 * n) v) (drop (4 * n) w) c (omega arith))
        ];
    quiet = λ e x l a. this_before x l ∙ r.quiet e x l (sym (later x l) ∙ a);
    busy = λ e.
        (let (x, l, a, b) = r.busy e in
        (x, l, later x l ∙ a, omega (arith, b, this_before x l)));
  }
    where
      this_before : (x : ℕ) → x < n → at before.names x ≡ this w x
      this_before x l = get_or-take n w x 0 l

      later : (x : ℕ) → x < n → at after.laters x ≡ at v (n + x)
      later x l = part_at n n v x l

      -- beyond the parts both are 0
      past : (xs ys : List ℕ) (c : ℕ) → n ≤ c → at (take n xs) c ≡ at (take n ys) c
      past xs ys c l = get_or_past (take n xs) c 0 (omega (arith, length-take n xs)) ∙ sym (get_or_past (take n ys) c 0 (omega (arith, length-take n ys)))

  wide : 6 * n ≤ length v
  wide = omega (arith, r.long)

  long : length after.laters ≡ length after.names
  long = part_long n n v (omega (arith, wide)) ∙ sym (length-take-le n v (omega (arith, wide)))

  layered : AtLayer M i before.names before.births before.parents
  layered = parts_hold (parts_in n w room) h

  pub quiet_settled_in : t ≡ false → i ≡ rounds M
  quiet_settled_in = quiet_settled M lawful before after i t long layered rounded rounded.done.right

  pub busy_unsettled_in : t ≡ true → i < rounds M
  busy_unsettled_in = busy_unsettled M lawful before after i t long layered rounded rounded.done.right

  -- a quiet round leaves the layer as it was
  pub stays_in : t ≡ false → InLayer M i v
  stays_in e = parts_held (parts_in n v wide) (stays M lawful before after i t long layered rounded rounded.done.right)

  pub deeper_in : (u : List ℕ) → t ≡ true → MovedIn n n v u → InLayer M (suc i) u
  deeper_in u e m = parts_held (parts_in n u (omega (arith, m.long, wide))) (deeper M lawful before after i t long layered rounded rounded.done.right (numbers_in n u) e moved)
    where
      moved : Moved after (numbers_in n u)
      moved = record {
        names = front_is n u after.laters (omega (arith, m.long, wide)) (part_long n n v (omega (arith, wide))) (λ x l. m.moved x l ∙ sym (part_at n n v x l));
        laters = kept n (omega arith) (omega (arith, wide));
        links = kept (2 * n) (omega arith) (omega (arith, wide));
        births = kept (3 * n) (omega arith) (omega (arith, wide));
        parents = kept (4 * n) (omega arith) (omega (arith, wide));
        heads = kept (5 * n) (omega arith) (omega (arith, wide));
      }
        where
          kept : (p : ℕ) → n ≤ p → p + n ≤ length v → take n (drop p u) ≡ take n (drop p v)
          kept p l room = part_same n p u v room m.long (λ x k. m.rest (p + x) (omega arith))
