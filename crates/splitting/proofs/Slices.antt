-- The passes of a take on the work slice itself: what they leave of its eight parts is what they leave of eight lists, so they leave the published take. Rests on the passes of a take put together, and on the parts as rooms.
use mathlib.Core.Path.{◌≡◌, refl, sym, ap, ap₂, subst, ◌∙◌}
use mathlib.Core.Logic.{◌≢◌}
use mathlib.Core.Bool.{Bool, false, not, ◌&&◌}
use mathlib.Core.List.{List}
use Prim.Native.Nat.{ℕ, ◌+◌, ◌*◌, ◌≤◌, ◌<◌}
use native.Mathlib.Omega.{arith}
use lib.Dec.{eqb}
use lib.ListN.{length, set, length-set}
use lib.Seq.{get_or-set_other}
use Rattle.counting.specs.Lists.{at}
use Rattle.counting.specs.Counts.{any}
use Rattle.counting.proofs.Parts.{part_at, part_long, part_is, part_same, part-set}
use Rattle.counting.proofs.Tallies.{any_cong, count_most}
use Rattle.automaton.specs.Machine.{Machine}
use Rattle.lending.specs.Memory.{cleared}
use Rattle.lending.proofs.Memories.{cleared-length}
use Rattle.splitting.specs.Work.{class_in, pending_in, leads_to, Counted, some_split, Unled, Renamed, Taken}
use Rattle.splitting.specs.Parts.{numbers, Shared}
use Rattle.splitting.specs.Slices.{first_of, pending_of, ReadyIn, CountedIn, some_split_in, UnledIn, RenamedIn, SharedIn, AdoptedIn, TakenIn}
use Rattle.splitting.proofs.Dueness.{Due}
use Rattle.splitting.proofs.Balances.{taken_quiet, share_fit, taken_split}
use Rattle.splitting.proofs.SliceRooms.{part, rooms_in, same_in, sized_in, front_at, ready_rooms, taken_slice, numbers_in, shared_parts}

-- a slice whose first five lists are cleared is as long as it was
pub mid_long : (n : ℕ) (work mid : List ℕ) → 8 * n ≤ length work → mid ≡ cleared (5 * n) work → length mid ≡ length work
mid_long n work mid room e = ap length e ∙ cleared-length (5 * n) work (omega arith)

module _ (M : Machine) (w : List ℕ) (q a : ℕ) (d : Due M (class_in M.size w) (pending_in M.size w) q a) (ready : ReadyIn M.size w) where
  abbrev n : ℕ
  n = M.size

  abbrev class : List ℕ
  class = class_in M.size w

  -- the pending of the class taken is lowered
  abbrev w₀ : List ℕ
  w₀ = set w (7 * M.size + q) a

  low_long : length w₀ ≡ length w
  low_long = length-set w (7 * n + q) a

  low_other : (i : ℕ) → i ≢ 7 * n + q → at w₀ i ≡ at w i
  low_other i u = get_or-set_other w (7 * n + q) i a 0 u

  low_class : class_in n w₀ ≡ class
  low_class = part_same n (6 * n) w₀ w (omega (arith, ready.room)) low_long (λ x l. low_other (6 * n + x) (omega arith))

  sizes_long : length (part n 0 w) ≡ n
  sizes_long = part_long n 0 w (omega (arith, ready.room))

  module _ (w₁ w₂ : List ℕ) (looked : ℕ) (split : Bool) (counts : CountedIn M (class_in M.size (set w (7 * M.size + q) a)) q a M.size (set w (7 * M.size + q) a) w₁ looked)
      (unled : UnledIn M.size w₁ w₂ split) where
    counted : CountedIn M class q a n w₀ w₁ looked
    counted = subst (λ (xs : List ℕ). CountedIn M xs q a n w₀ w₁ looked) low_class counts

    count_room : 8 * n ≤ length w₁
    count_room = omega (arith, counted.long, low_long, ready.room)

    pub long : length w₂ ≡ length w
    long = unled.long ∙ counted.long ∙ low_long

    room : 8 * n ≤ length w₂
    room = omega (arith, long, ready.room)

    same : (i : ℕ) → i < 4 * n → at w₂ i ≡ at w i
    same i l = unled.below i l ∙ counted.below i l ∙ low_other i (omega arith)

    beyond : (i : ℕ) → 6 * n ≤ i → at w₂ i ≡ at w₀ i
    beyond i l = unled.beyond i (omega arith) ∙ counted.beyond i l

    far : (i : ℕ) → 8 * n ≤ i → at w₂ i ≡ at w i
    far i l = beyond i (omega arith) ∙ low_other i (omega (arith, d.within))

    -- the counting and the looking through, of the parts
    counted_parts : Counted M class q a n (part n (4 * n) w₁) (part n (5 * n) w₁) looked
    counted_parts = record {
      room = (part_long n (4 * n) w₁ (omega (arith, count_room)), part_long n (5 * n) w₁ (omega (arith, count_room)));
      looks = counted.looks;
      leds = λ c l. part_at n (4 * n) w₁ c l ∙ counted.leds c l;
      touched = λ c l u.
          (let (j, m, e) = counted.touched c l (λ z. u (part_at n (4 * n) w₁ c l ∙ z)) in
          (j, m, part_at n (5 * n) w₁ j (omega (arith, few)) ∙ e));
      within = λ j l. omega (arith, part_at n (5 * n) w₁ j (omega (arith, few)), counted.within j l);
    }
      where
        few : looked ≤ n
        few = omega (arith, counted.looks, count_most n (leads_to M class q a))

    unled_parts : Unled (part n 0 w) (part n (4 * n) w₁) (part n (4 * n) w₂) split
    unfolding some_split some_split_in
    unled_parts = record {
      long = part_long n (4 * n) w₂ (omega (arith, room)) ∙ sym (part_long n (4 * n) w₁ (omega (arith, count_room)));
      found =
          unled.found
          ∙ any_cong n _ cut (λ c l. rw (part_at n (4 * n) w₁ c l, front_at n w c l, sym (counted.below c (omega arith) ∙ low_other c (omega arith))) refl)
          ∙ ap (λ (m : ℕ). any m cut) (sym sizes_long);
      leds = λ c l. let m : c < n = omega (arith, sizes_long) in part_at n (4 * n) w₂ c m ∙ unled.leds c m;
    }
      where
        cut : ℕ → Bool
        cut c = not (eqb (at (part n (4 * n) w₁) c) 0) && not (eqb (at (part n (4 * n) w₁) c) (at (part n 0 w) c))

    class_same : class_in n w₂ ≡ class
    class_same = part_same n (6 * n) w₂ w (omega (arith, ready.room)) long (λ x l. beyond (6 * n + x) (omega arith) ∙ low_other (6 * n + x) (omega arith))

    pending_low : pending_in n w₂ ≡ set (pending_in n w) q a
    pending_low =
        part_same n (7 * n) w₂ w₀ (omega (arith, low_long, ready.room)) (long ∙ sym low_long) (λ x l. beyond (7 * n + x) (omega arith))
        ∙ part-set n (7 * n) w q a (omega (arith, ready.room)) d.within

    -- no class is split
    pub taken_quiet_in : split ≡ false → TakenIn M w w₂ looked
    taken_quiet_in e =
        let t : Taken M (rooms_in n w) (rooms_in n w₂) looked = taken_quiet M (rooms_in n w) q a d (ready_rooms n w ready) (part n (4 * n) w₁) (part n (5 * n) w₁) (part n (4 * n) w₂) looked split counted_parts unled_parts e
        (rooms_in n w₂) (same_in n w w₂) (sized_in n w₂ room)
        (part_same n 0 w₂ w (omega (arith, ready.room)) long (λ x l. same (0 + x) (omega arith)))
        (part_same n n w₂ w (omega (arith, ready.room)) long (λ x l. same (n + x) (omega arith)))
        (part_same n (2 * n) w₂ w (omega (arith, ready.room)) long (λ x l. same (2 * n + x) (omega arith)))
        refl class_same pending_low
        in
        taken_slice M w w₂ looked (omega (arith, ready.room)) long far t

    pub still_idle_in : (p : ℕ) → p < q → pending_of n w₂ p ≡ 0
    still_idle_in p l =
        beyond (7 * n + p) (omega arith) ∙ low_other (7 * n + p) (omega arith) ∙ sym (part_at n (7 * n) w p (omega (arith, d.within))) ∙ d.first p l

    -- some class is split: what the renaming left
    module _ (w₃ : List ℕ) (renames : RenamedIn M (class_in M.size w₂) q a M.size w₂ w₃) where
      renamed : RenamedIn M class q a n w₂ w₃
      renamed = subst (λ (xs : List ℕ). RenamedIn M xs q a n w₂ w₃) class_same renames

      name_room : 8 * n ≤ length w₃
      name_room = omega (arith, renamed.long, room)

      renamed_parts : Renamed M class q a n (part n n w₃) (part n (2 * n) w₃) (part n (3 * n) w₃)
      renamed_parts = record {
        room = (part_long n n w₃ (omega (arith, name_room)), part_long n (2 * n) w₃ (omega (arith, name_room)), part_long n (3 * n) w₃ (omega (arith, name_room)));
        firsts = λ c l. part_at n n w₃ c l ∙ renamed.firsts c l;
        gones = λ c l. part_at n (2 * n) w₃ c l ∙ renamed.gones c l;
        renamed = λ y l. part_at n (3 * n) w₃ y l ∙ renamed.renamed y l;
      }

      -- the new name of a class is a state
      name_within : (p : ℕ) → p < n → first_of n w₃ p < n
      name_within p l =
          let f = share_fit M (rooms_in n w) q a d (ready_rooms n w ready) (part n (4 * n) w₁) (part n (5 * n) w₁) (part n (4 * n) w₂) looked split counted_parts unled_parts (part n n w₃) (part n (2 * n) w₃) (part n (3 * n) w₃) renamed_parts in
          omega (arith, (f.within p (omega (arith, sizes_long))).0, part_at n n w₃ p l, sizes_long)

      numbers_low : numbers_in n w₃ ≡ numbers (part n 0 w) (part n n w₃) (part n (2 * n) w₃) (set (pending_in n w) q a)
      numbers_low =
          ap₂ (λ (s p : List ℕ). numbers s (part n n w₃) (part n (2 * n) w₃) p)
          (part_same n 0 w₃ w (omega (arith, ready.room)) (renamed.long ∙ long) (λ x l. renamed.sizes (0 + x) (omega arith) ∙ same (0 + x) (omega arith)))
          (part_same n (7 * n) w₃ w₂ (omega (arith, room)) renamed.long (λ x l. renamed.beyond (7 * n + x) (omega arith)) ∙ pending_low)

      -- and what the sharing and the taking over left
      module _ (w₄ w₅ : List ℕ) (shared : SharedIn M.size M.signs M.size w₃ w₄) (adopted : AdoptedIn M.size M.size w₄ w₅) where
        share_room : 8 * n ≤ length w₄
        share_room = omega (arith, shared.long, name_room)

        all_long : length w₅ ≡ length w
        all_long = adopted.long ∙ shared.long ∙ renamed.long ∙ long

        all_room : 8 * n ≤ length w₅
        all_room = omega (arith, all_long, ready.room)

        shares : Shared M.signs (length (part n 0 w)) (numbers (part n 0 w) (part n n w₃) (part n (2 * n) w₃) (set (pending_in n w) q a)) (numbers_in n w₄)
        shares = rw (sizes_long, ← numbers_low) (shared_parts n M.signs w₃ w₄ name_room name_within shared)

        -- a part that was not taken over
        adopted_part : (m : ℕ) → m + n ≤ 6 * n → part n m w₅ ≡ part n m w₄
        adopted_part m l = part_same n m w₅ w₄ (omega (arith, share_room)) adopted.long (λ x k. adopted.below (m + x) (omega arith))

        leds : part n (4 * n) w₅ ≡ part n (4 * n) w₂
        leds =
            part_same n (4 * n) w₅ w₂ (omega (arith, room)) (omega (arith, all_long, long))
            (λ x l. adopted.below (4 * n + x) (omega arith) ∙ shared.between (4 * n + x) (omega arith) (omega arith) ∙ renamed.beyond (4 * n + x) (omega arith))

        names : class_in n w₅ ≡ part n (3 * n) w₃
        names =
            part_is n (6 * n) w₅ (part n (3 * n) w₃) (omega (arith, all_room)) (part_long n (3 * n) w₃ (omega (arith, name_room)))
            (λ x l. adopted.names x l ∙ shared.between (3 * n + x) (omega arith) (omega arith) ∙ sym (part_at n (3 * n) w₃ x l))

        pendings : pending_in n w₅ ≡ pending_in n w₄
        pendings = part_same n (7 * n) w₅ w₄ (omega (arith, share_room)) adopted.long (λ x l. adopted.beyond (7 * n + x) (omega arith))

        pub taken_split_in : TakenIn M w w₅ looked
        taken_split_in =
            let t : Taken M (rooms_in n w) (rooms_in n w₅) looked = taken_split M (rooms_in n w) q a d (ready_rooms n w ready) (part n (4 * n) w₁) (part n (5 * n) w₁) (part n (4 * n) w₂) looked split counted_parts unled_parts
            (part n n w₃) (part n (2 * n) w₃) (part n (3 * n) w₃) renamed_parts (numbers_in n w₄) shares
            (rooms_in n w₅) (same_in n w w₅) (sized_in n w₅ all_room)
            (adopted_part 0 (omega arith)) (adopted_part n (omega arith)) (adopted_part (2 * n) (omega arith)) leds names pendings
            in
            taken_slice M w w₅ looked (omega (arith, ready.room)) all_long (λ i l. adopted.beyond i (omega arith) ∙ shared.beyond i l ∙ renamed.beyond i (omega arith) ∙ far i l) t
