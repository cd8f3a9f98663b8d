-- The passes of a take put together: what each finds ready, and that they leave the published take. Rests on the parts of the classes and on the take that is due.
use mathlib.Core.Path.{◌≡◌, refl, sym, ap, subst, ◌∙◌}
use mathlib.Core.Logic.{◌≢◌}
use mathlib.Core.Bool.{Bool, false, not, ◌&&◌}
use mathlib.Core.List.{List}
use Prim.Native.Nat.{ℕ, ◌<◌}
use native.Mathlib.Decide.{ℕ_discrete}
use native.Mathlib.Omega.{arith}
use borrow.Author.Tests.{eq-eqb, ne_eqb, lt-ltb}
use lib.Dec.{eqb, leb}
use lib.ListN.{length, set, length-set}
use Rattle.counting.specs.Lists.{at}
use Rattle.counting.specs.Least.{pick}
use Rattle.counting.specs.Counts.{count}
use Rattle.counting.proofs.Tallies.{count_cong}
use Rattle.automaton.specs.Machine.{Machine}
use Rattle.refining.specs.Take.{take as take_of}
use Rattle.refining.proofs.Runs.{take_long}
use Rattle.splitting.specs.declared.rooms.Rooms.{Rooms}
use Rattle.splitting.specs.Work.{lists_of, goes_by, first_goer, Classed, Same, Sized, Ready, Counted, Unled, Renamed, Taken}
use Rattle.splitting.specs.Parts.{Numbers, numbers, kept_of, kept_pending, new_pending, Fit, Shared}
use Rattle.splitting.proofs.Places.{split_is}
use Rattle.splitting.proofs.Divisions as divisions
use Rattle.splitting.proofs.Dueness.{Due, classed_due, entries_due, class_is, pending_kept, pending_new, pending_other, class_quiet, pending_quiet}
use Rattle.splitting.proofs.Quietness.{nobody_goes}

module _ (M : Machine) (w : Rooms) (q a : ℕ) (d : Due M w.classes.now w.pendings.now q a) (ready : Ready M.size w) where
  abbrev n : ℕ
  n = M.size

  abbrev class : List ℕ
  class = w.classes.now

  abbrev pending : List ℕ
  pending = w.pendings.now

  -- the pending of the class taken is lowered
  abbrev lowered : List ℕ
  lowered = set pending q a

  classed : Classed n class
  classed = classed_due M class pending q a d

  low_long : length lowered ≡ n
  low_long = length-set pending q a ∙ ready.room.pendings

  module _ (led touch led' : List ℕ) (looked : ℕ) (split : Bool) (counted : Counted M w.classes.now q a M.size led touch looked) (unled : Unled w.sizes.now led led' split) where
    leds : (c : ℕ) → c < n → at led' c ≡ 0
    leds c l = unled.leds c (omega (arith, ready.room.sizes))

    -- no class is split
    pub taken_quiet : split ≡ false → (w' : Rooms) → Same w w' → Sized M.size w' → w'.sizes.now ≡ w.sizes.now → w'.firsts.now ≡ w.firsts.now → w'.gones.now ≡ w.gones.now → w'.leds.now ≡ led'
        → w'.classes.now ≡ w.classes.now → w'.pendings.now ≡ set w.pendings.now q a
        → Taken M w w' looked
    taken_quiet e w' same sized sizes firsts gones led_is classes pendings = record {
      lists =
          split_is n w'.classes.now w'.pendings.now (take_of M (lists_of w)) (sized.classes, sized.pendings) (take_long M (lists_of w))
          (λ x l. ap (λ (xs : List ℕ). at xs x) classes ∙ sym (class_quiet M class pending q a d quiet x l))
          (λ x l. ap (λ (xs : List ℕ). at xs x) pendings ∙ sym (pending_quiet M class pending q a d quiet x l));
      looks = counted.looks ∙ sym (entries_due M class pending q a d);
      ready = record {
        room = sized;
        sizes = λ c l. rw (sizes, classes) (ready.sizes c l);
        firsts = λ c l. rw firsts (ready.firsts c l);
        gones = λ c l. rw gones (ready.gones c l);
        leds = λ c l. rw led_is (leds c l);
      };
      same = same;
    }
      where
        quiet : (x : ℕ) → x < n → goes_by M class q a x ≡ false
        quiet = nobody_goes M class q a classed w.sizes.now led ready.room.sizes ready.sizes counted.leds (sym unled.found ∙ e)

    -- some class is split: what the renaming left
    module _ (first_at gone name : List ℕ) (renamed : Renamed M w.classes.now q a M.size first_at gone name) where
      abbrev first : ℕ → ℕ
      first c = first_goer M class q a M.size c

      abbrev w₃ : Numbers
      w₃ = numbers w.sizes.now first_at gone (set w.pendings.now q a)

      kept_is : (c : ℕ) → c < n → kept_of w₃ c ≡ count n (λ x. eqb (at class x) c && not (goes_by M class q a x))
      kept_is c l = omega (arith, ready.sizes c l, renamed.gones c l, divisions.size_parts M class q a classed c)

      found : (p : ℕ) → p < n → at first_at p ≢ 0 → first p ≢ 0
      found p l u z = u (renamed.firsts p l ∙ z)

      -- what the sharing finds
      pub share_fit : Fit (numbers w.sizes.now first_at gone (set w.pendings.now q a))
      share_fit = record {
        long = (omega (arith, renamed.room.0, ready.room.sizes), omega (arith, renamed.room.1, ready.room.sizes), omega (arith, low_long, ready.room.sizes));
        within = λ p l.
            let m : p < n = omega (arith, ready.room.sizes) in (
              omega (arith, renamed.firsts p m, divisions.first_in M class q a classed p m, ready.room.sizes),
              omega (arith, ready.sizes p m, renamed.gones p m, divisions.size_parts M class q a classed p),
            );
        apart = λ p l u.
            let m : p < n = omega (arith, ready.room.sizes) in
            let v : first p ≢ 0 = found p m u in
            let i = divisions.first_is M class q a classed p v in
            (omega (arith, i.above, renamed.firsts p m), ap (at first_at) (renamed.firsts p m) ∙ renamed.firsts (first p) i.within ∙ divisions.first_none M class q a classed p v);
        single = λ p r l h u e.
            let m : p < n = omega (arith, ready.room.sizes) in
            divisions.first_one M class q a classed p r (found p m u) (sym (renamed.firsts p m) ∙ e ∙ renamed.firsts r (omega (arith, ready.room.sizes)));
      }

      -- and what the sharing and the taking over left
      module _ (w₄ : Numbers) (shares : Shared M.signs (length w.sizes.now) (numbers w.sizes.now first_at gone (set w.pendings.now q a)) w₄) where
        shared : Shared M.signs n w₃ w₄
        shared = subst (λ (m : ℕ). Shared M.signs m w₃ w₄) ready.room.sizes shares

        after : (x : ℕ) → x < n → at name x ≡ divisions.after M class q a classed x
        after x l = renamed.renamed x l

        -- the shares by what the renaming found
        kept_at : (p : ℕ) → p < n → first p ≢ 0
            → (at w₄.pendings p ≡ pick (leb (divisions.kept M class q a classed p) (divisions.gone M class q a classed p)) M.signs (at lowered p))
            × (at w₄.sizes p ≡ divisions.kept M class q a classed p)
        unfolding kept_pending
        kept_at p l u =
            let h = shared.kept p l (λ z. u (sym (renamed.firsts p l) ∙ z)) in
            (h.0 ∙ rw (kept_is p l, renamed.gones p l) refl, h.1 ∙ kept_is p l)

        new_at : (p : ℕ) → p < n → first p ≢ 0
            → (at w₄.pendings (first p) ≡ pick (leb (divisions.kept M class q a classed p) (divisions.gone M class q a classed p)) (at lowered p) M.signs)
            × (at w₄.sizes (first p) ≡ divisions.gone M class q a classed p)
        unfolding new_pending
        new_at p l u =
            let h = shared.new p l (λ z. u (sym (renamed.firsts p l) ∙ z)) in
            let e : first p ≡ at first_at p = sym (renamed.firsts p l) in
            (ap (at w₄.pendings) e ∙ h.0 ∙ rw (kept_is p l, renamed.gones p l) refl, ap (at w₄.sizes) e ∙ h.1 ∙ renamed.gones p l)

        other_at : (y : ℕ) → y < n → first y ≡ 0 → ((p : ℕ) → p < n → first p ≢ 0 → y ≢ first p) → (at w₄.pendings y ≡ at lowered y) × (at w₄.sizes y ≡ at w.sizes.now y)
        other_at y l z u = shared.others y (λ m. renamed.firsts y l ∙ z) (λ p m v e. u p m (found p m v) (e ∙ renamed.firsts p m))

        class-in : (x : ℕ) → x < n → at class x < n
        class-in x l = omega (arith, classed.low x l)

        pendings : (x : ℕ) → x < n → at w₄.pendings x ≡ at (take_of M (lists_of w)).pending x
        pendings x l = divisions.by_part M class q a classed x l
            (λ u. (kept_at x l u).0 ∙ sym (pending_kept M class pending q a d x l u))
            (λ u e. ap (at w₄.pendings) e ∙ (new_at (at class x) (class-in x l) u).0 ∙ sym (pending_new M class pending q a d x l u e))
            (λ z u. (other_at x l z u).0 ∙ sym (pending_other M class pending q a d x l z u))

        sizes : (c : ℕ) → c < n → at w₄.sizes c ≡ count n (λ x. eqb (at name x) c)
        sizes c l =
            divisions.by_part M class q a classed c l
            (λ u. (kept_at c l u).1 ∙ sym (divisions.size_kept M class q a classed c u))
            (λ u e.
            ap (at w₄.sizes) e ∙ (new_at (at class c) (class-in c l) u).1 ∙ sym (divisions.size_new M class q a classed (at class c) u)
            ∙ ap (λ (r : ℕ). count n (λ x. eqb (divisions.after M class q a classed x) r)) (sym e))
            (λ z u. (other_at c l z u).1 ∙ ready.sizes c l ∙ sym (divisions.size_other M class q a classed c z u))
            ∙ sym (count_cong n _ _ (λ x m. ap (λ (y : ℕ). eqb y c) (after x m)))

        gones : (p : ℕ) → p < n → at w₄.gones p ≡ 0
        unfolding pick
        gones p l = shared.gones p ∙ rw (lt-ltb p n l) (elim (ℕ_discrete (at first_at p) 0) [
          | yes z ↦ rw (eq-eqb (at first_at p) 0 z) (renamed.gones p l ∙ divisions.gone_none M class q a classed p (sym (renamed.firsts p l) ∙ z))
          | no u ↦ rw (ne_eqb (at first_at p) 0 u) refl
        ])

        firsts : (p : ℕ) → p < n → at w₄.firsts p ≡ 0
        unfolding pick
        firsts p l = shared.firsts p ∙ rw (lt-ltb p n l) refl

        pub taken_split : (w' : Rooms) → Same w w' → Sized M.size w' → w'.sizes.now ≡ w₄.sizes → w'.firsts.now ≡ w₄.firsts → w'.gones.now ≡ w₄.gones → w'.leds.now ≡ led'
            → w'.classes.now ≡ name → w'.pendings.now ≡ w₄.pendings
            → Taken M w w' looked
        taken_split w' same sized sizes_is firsts_is gones_is led_is classes_is pendings_is = record {
          lists =
              split_is n w'.classes.now w'.pendings.now (take_of M (lists_of w)) (sized.classes, sized.pendings) (take_long M (lists_of w))
              (λ x l. ap (λ (xs : List ℕ). at xs x) classes_is ∙ after x l ∙ sym (class_is M class pending q a d x l))
              (λ x l. ap (λ (xs : List ℕ). at xs x) pendings_is ∙ pendings x l);
          looks = counted.looks ∙ sym (entries_due M class pending q a d);
          ready = record {
            room = sized;
            sizes = λ c l. rw (sizes_is, classes_is) (sizes c l);
            firsts = λ c l. rw firsts_is (firsts c l);
            gones = λ c l. rw gones_is (gones c l);
            leds = λ c l. rw led_is (leds c l);
          };
          same = same;
        }
