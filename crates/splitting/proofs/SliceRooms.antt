-- The eight parts of the work slice as rooms: they are ready where the slice is, shared as it is, and a take of them is one of the slice. Rests on the laws of parts of a list.
use mathlib.Core.Path.{◌≡◌, refl, sym, ap, ap₂, ◌∙◌}
use mathlib.Core.Bool.{not, ◌&&◌}
use mathlib.Core.List.{List}
use Prim.Native.Nat.{ℕ, ◌+◌, ◌*◌, ◌≤◌, ◌<◌}
use native.Mathlib.Decide.{dec_lt}
use native.Mathlib.Omega.{arith}
use borrow.Author.Tests.{le-ltb}
use denote.MutBor.{MutBor}
use lib.Dec.{eqb, ltb}
use lib.ListN.{length, take, drop}
use Rattle.std.proofs.lemmas.List.{get_or_past}
use Rattle.counting.specs.Lists.{at}
use Rattle.counting.specs.Least.{pick}
use Rattle.counting.proofs.Parts.{part_at, part_long}
use Rattle.automaton.specs.Machine.{Machine}
use Rattle.splitting.specs.declared.rooms.Rooms.{Rooms}
use Rattle.splitting.specs.Work.{class_in, pending_in, Same, Sized, Ready, Taken}
use Rattle.splitting.specs.Parts.{Numbers, numbers, kept_pending, new_pending, Shared}
use Rattle.splitting.specs.Slices.{first_of, ReadyIn, kept_pending_in, new_pending_in, SharedIn, TakenIn}

-- the part of n numbers from a place on
abbrev pub part : ℕ → ℕ → List ℕ → List ℕ
part n m work = take n (drop m work)

-- beyond its end
part_past : (n m : ℕ) (work : List ℕ) (x : ℕ) → m + n ≤ length work → n ≤ x → at (part n m work) x ≡ 0
part_past n m work x room l = get_or_past (part n m work) x 0 (omega (arith, part_long n m work room))

-- a list lent, from any place
abbrev lent : List ℕ → MutBor (List ℕ)
lent xs = record { ref_ptr = (0, 0); ghost_name = 0; now = xs }

-- the eight parts of the work slice as rooms
abbrev pub rooms_in : ℕ → List ℕ → Rooms
rooms_in n work = record {
  sizes = lent (part n 0 work);
  firsts = lent (part n n work);
  gones = lent (part n (2 * n) work);
  renamed = lent (part n (3 * n) work);
  leds = lent (part n (4 * n) work);
  touched = lent (part n (5 * n) work);
  classes = lent (class_in n work);
  pendings = lent (pending_in n work);
}

pub same_in : (n : ℕ) (v w : List ℕ) → Same (rooms_in n v) (rooms_in n w)
same_in n v w = record { sizes = refl; firsts = refl; gones = refl; renamed = refl; leds = refl; touched = refl; classes = refl; pendings = refl }

pub sized_in : (n : ℕ) (work : List ℕ) → 8 * n ≤ length work → Sized n (rooms_in n work)
sized_in n work room = record {
  sizes = part_long n 0 work (omega arith);
  firsts = part_long n n work (omega arith);
  gones = part_long n (2 * n) work (omega arith);
  renamed = part_long n (3 * n) work (omega arith);
  leds = part_long n (4 * n) work (omega arith);
  touched = part_long n (5 * n) work (omega arith);
  classes = part_long n (6 * n) work (omega arith);
  pendings = part_long n (7 * n) work (omega arith);
}

-- the first part is the front
pub front_at : (n : ℕ) (work : List ℕ) (x : ℕ) → x < n → at (part n 0 work) x ≡ at work x
front_at n work x l = part_at n 0 work x l ∙ ap (at work) (omega arith)

-- a slice is ready as its parts are
pub ready_rooms : (n : ℕ) (work : List ℕ) → ReadyIn n work → Ready n (rooms_in n work)
ready_rooms n work r = record {
  room = sized_in n work r.room;
  sizes = λ c l. front_at n work c l ∙ r.sizes c l;
  firsts = λ c l. part_at n n work c l ∙ r.firsts c l;
  gones = λ c l. part_at n (2 * n) work c l ∙ r.gones c l;
  leds = λ c l. part_at n (4 * n) work c l ∙ r.leds c l;
}

pub ready_slice : (n : ℕ) (work : List ℕ) → 8 * n ≤ length work → Ready n (rooms_in n work) → ReadyIn n work
ready_slice n work room r = record {
  room = room;
  sizes = λ c l. sym (front_at n work c l) ∙ r.sizes c l;
  firsts = λ c l. sym (part_at n n work c l) ∙ r.firsts c l;
  gones = λ c l. sym (part_at n (2 * n) work c l) ∙ r.gones c l;
  leds = λ c l. sym (part_at n (4 * n) work c l) ∙ r.leds c l;
}

-- what a take left of the parts, with all beyond as it was, it left of the slice
pub taken_slice : (M : Machine) (before after : List ℕ) (looked : ℕ) → 8 * M.size ≤ length before → length after ≡ length before → ((i : ℕ) → 8 * M.size ≤ i → at after i ≡ at before i)
    → Taken M (rooms_in M.size before) (rooms_in M.size after) looked
    → TakenIn M before after looked
taken_slice M before after looked room long beyond t = record {
  long = long;
  lists = t.lists;
  looks = t.looks;
  ready = ready_slice M.size after (omega (arith, long)) t.ready;
  beyond = beyond;
}

-- the numbers of the classes in the slice
abbrev pub numbers_in : ℕ → List ℕ → Numbers
numbers_in n work = numbers (part n 0 work) (part n n work) (part n (2 * n) work) (pending_in n work)

-- what was shared of the slice was shared of its parts
module _ (n k : ℕ) (v w : List ℕ) (room : 8 * n ≤ length v) (within : (p : ℕ) → p < n → first_of n v p < n) (s : SharedIn n k n v w) where
  after_room : 8 * n ≤ length w
  after_room = omega (arith, s.long)

  first_at : (p : ℕ) → p < n → at (part n n v) p ≡ first_of n v p
  first_at p l = part_at n n v p l

  kept_is : (p : ℕ) → p < n → kept_pending_in n k v p ≡ kept_pending k (numbers_in n v) p
  unfolding kept_pending_in kept_pending
  kept_is p l = rw (front_at n v p l, part_at n (2 * n) v p l, part_at n (7 * n) v p l) refl

  new_is : (p : ℕ) → p < n → new_pending_in n k v p ≡ new_pending k (numbers_in n v) p
  unfolding new_pending_in new_pending
  new_is p l = rw (front_at n v p l, part_at n (2 * n) v p l, part_at n (7 * n) v p l) refl

  pub shared_parts : Shared k n (numbers_in n v) (numbers_in n w)
  unfolding pick
  shared_parts = record {
    long = (
      part_long n 0 w (omega (arith, after_room)) ∙ sym (part_long n 0 v (omega arith)),
      part_long n n w (omega (arith, after_room)) ∙ sym (part_long n n v (omega arith)),
      part_long n (2 * n) w (omega (arith, after_room)) ∙ sym (part_long n (2 * n) v (omega arith)),
      part_long n (7 * n) w (omega (arith, after_room)) ∙ sym (part_long n (7 * n) v (omega arith)),
    );
    kept = λ p l u.
        let h = s.kept p l (λ z. u (first_at p l ∙ z)) in
        (part_at n (7 * n) w p l ∙ h.0 ∙ kept_is p l, omega (arith, h.1, front_at n w p l, front_at n v p l, part_at n (2 * n) v p l));
    new = λ p l u.
        let h = s.new p l (λ z. u (first_at p l ∙ z)) in
        let m : first_of n v p < n = within p l in (
          ap (at (pending_in n w)) (first_at p l) ∙ part_at n (7 * n) w (first_of n v p) m ∙ h.0 ∙ new_is p l,
          ap (at (part n 0 w)) (first_at p l) ∙ front_at n w (first_of n v p) m ∙ h.1 ∙ sym (part_at n (2 * n) v p l),
        );
    others = λ y z u.
        elim (dec_lt y n) [
          | yes l ↦
              (let h = s.others y l (λ m. sym (first_at y l) ∙ z m) (λ p m t e. u p m (λ f. t (sym (first_at p m) ∙ f)) (e ∙ sym (first_at p m))) in
              (part_at n (7 * n) w y l ∙ h.0 ∙ sym (part_at n (7 * n) v y l), front_at n w y l ∙ h.1 ∙ sym (front_at n v y l)))
          | no l ↦ (
            part_past n (7 * n) w y (omega (arith, after_room)) (omega arith) ∙ sym (part_past n (7 * n) v y (omega arith) (omega arith)),
            part_past n 0 w y (omega (arith, after_room)) (omega arith) ∙ sym (part_past n 0 v y (omega arith) (omega arith)),
          )
        ];
    firsts = λ p.
        elim (dec_lt p n) [
          | yes l ↦ part_at n n w p l ∙ s.firsts p l ∙ ap (pick (ltb p n) 0) (sym (first_at p l))
          | no l ↦ part_past n n w p (omega (arith, after_room)) (omega arith) ∙ rw (le-ltb p n (omega arith)) (sym (part_past n n v p (omega arith) (omega arith)))
        ];
    gones = λ p.
        elim (dec_lt p n) [
          | yes l ↦
              part_at n (2 * n) w p l
              ∙ s.gones p l
              ∙ ap₂ (λ (f g : ℕ). pick (ltb p n && not (eqb f 0)) 0 g) (sym (first_at p l)) (sym (part_at n (2 * n) v p l))
          | no l ↦ part_past n (2 * n) w p (omega (arith, after_room)) (omega arith) ∙ rw (le-ltb p n (omega arith)) (sym (part_past n (2 * n) v p (omega arith) (omega arith)))
        ];
  }
