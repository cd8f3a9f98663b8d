-- Reading a word back: its signs counted, and written from the last to the first.
use mathlib.Core.Path.{◌≡◌, refl, sym, ap, ◌∙◌}
use mathlib.Core.Logic.{◌≢◌}
use mathlib.Core.List.{List, [], ◌∷◌, ◌++◌}
use Prim.Native.Nat.{ℕ, zero, suc, ◌+◌, ◌-◌, ◌≤◌, ◌<◌}
use native.Mathlib.Decide.{ℕ_discrete}
use native.Mathlib.Omega.{arith}
use lib.ListN.{length, set, length-append, length-set, get_or-append}
use lib.Seq.{get_or-set_same, get_or-set_other, get_or-append_seam}
use Rattle.counting.specs.Lists.{at}
use Rattle.lending.specs.Memory.{written}
use Rattle.lending.proofs.Memories.{written_is}
use Rattle.seeking.specs.Search.{word_in, word_of, Earlier}
use Rattle.seeking.proofs.Backwards.{word_step, word_short}

module _ (from by : ℕ → ℕ) (pair : ℕ) where
  abbrev word : ℕ → List ℕ
  word = word_of from by

  -- The signs behind node i are counted.
  pub record Counted (i count : ℕ) : Type 0 where
    pub within : i ≤ pair
    pub counted : count + length (word i) ≡ length (word pair)

  -- The signs from a place on are written, and the node whose word ends there is i.
  pub record Spelled (lent after : List ℕ) (i place : ℕ) : Type 0 where
    pub within : i ≤ pair
    pub left : length (word i) ≡ place
    pub front : (j : ℕ) → j < place → at (word i) j ≡ at (word pair) j
    pub most : place ≤ length (word pair)
    pub long : length after ≡ length lent
    pub signs : (j : ℕ) → place ≤ j → j < length (word pair) → at after j ≡ at (word pair) j
    pub behind : (j : ℕ) → length (word pair) ≤ j → at after j ≡ at lent j

module _ (from by : ℕ → ℕ) (pair : ℕ) (earlier : Earlier from (suc pair)) where
  pub from_less : (i : ℕ) → i ≢ 0 → i ≤ pair → from i < i
  from_less zero u l = absurd (u refl)
  from_less (suc i) u l = omega (arith, earlier i (omega arith))

  before : (i : ℕ) → i ≢ 0 → i ≤ pair → word_of from by i ≡ word_of from by (from i) ++ by i ∷ []
  before i u l = word_step from by (suc pair) earlier i (omega arith) (omega arith)

  before_long : (i : ℕ) → i ≢ 0 → i ≤ pair → length (word_of from by i) ≡ suc (length (word_of from by (from i)))
  before_long i u l = ap length (before i u l) ∙ omega (arith, length-append (word_of from by (from i)) (by i ∷ []))

  pub counted_none : Counted from by pair pair 0
  counted_none = record { within = omega arith; counted = omega arith }

  pub counted_most : (i count : ℕ) → Counted from by pair i count → count ≤ pair
  counted_most i count c = omega (arith, c.counted, word_short from by (suc pair) earlier pair)

  pub counted_more : (i count j : ℕ) → i ≢ 0 → j ≡ from i → Counted from by pair i count → Counted from by pair j (count + 1)
  counted_more i count j u e c = rw e (record { within = omega (arith, from_less i u c.within, c.within); counted = omega (arith, before_long i u c.within, c.counted) })

  pub counted-all : (i count : ℕ) → i ≡ 0 → Counted from by pair i count → count ≡ length (word_of from by pair)
  unfolding word_in
  counted-all i count e c = omega (arith, c.counted, ap (λ (j : ℕ). length (word_of from by j)) e)

  pub spelled_none : (lent : List ℕ) (place : ℕ) → place ≡ length (word_of from by pair) → Spelled from by pair lent lent pair place
  spelled_none lent place e = record {
    within = omega arith;
    left = sym e;
    front = λ j l. refl;
    most = omega arith;
    long = refl;
    signs = λ j l m. absurd (omega arith);
    behind = λ j l. refl;
  }

  module _ (lent after : List ℕ) (i place : ℕ) (s : Spelled from by pair lent after i (suc place)) where
    some : i ≢ 0
    unfolding word_in
    some e = omega (arith, s.left, ap (λ (j : ℕ). length (word_of from by j)) e)

    -- the sign that is due
    due : by i ≡ at (word_of from by pair) place
    due =
        let e : length (word_of from by (from i)) ≡ place = omega (arith, s.left, before_long i some s.within) in
        sym (get_or-append_seam (word_of from by (from i)) (by i) [] 0)
        ∙ ap (at (word_of from by (from i) ++ by i ∷ [])) e
        ∙ ap (λ (w : List ℕ). at w place) (sym (before i some s.within))
        ∙ s.front place (omega arith)

    goes_on : length (word_of from by pair) ≤ length lent → Spelled from by pair lent (set after place (by i)) (from i) place
    goes_on room = record {
      within = omega (arith, from_less i some s.within, s.within);
      left = shorter;
      front = λ j l.
          sym (get_or-append (word_of from by (from i)) (by i ∷ []) 0 j (omega (arith, shorter)))
          ∙ ap (λ (w : List ℕ). at w j) (sym (before i some s.within))
          ∙ s.front j (omega arith);
      most = omega (arith, s.most);
      long = length-set after place (by i) ∙ s.long;
      signs = λ j l m.
          elim (ℕ_discrete j place) [
            | yes e ↦ rw e (get_or-set_same after place (by i) 0 (omega (arith, s.most, s.long)) ∙ due)
            | no d ↦ get_or-set_other after place j (by i) 0 d ∙ s.signs j (omega arith) m
          ];
      behind = λ j l. get_or-set_other after place j (by i) 0 (omega (arith, s.most)) ∙ s.behind j l;
    }
      where
        shorter : length (word_of from by (from i)) ≡ place
        shorter = omega (arith, s.left, before_long i some s.within)

  module _ (lent after : List ℕ) (i place : ℕ) (s : Spelled from by pair lent after i place) (left : place ≢ 0) where
    abbrev last : suc (place - 1) ≡ place
    last = omega arith

    pub sign_due : by i ≡ at (word_of from by pair) (place - 1)
    sign_due = due lent after i (place - 1) (rw last s)

    pub spelled_more : (v j : ℕ) → length (word_of from by pair) ≤ length lent → v ≡ by i → j ≡ from i → Spelled from by pair lent (set after (place - 1) v) j (place - 1)
    spelled_more v j room e f = rw (e, f) (goes_on lent after i (place - 1) (rw last s) room)

  pub spelled-all : (lent after : List ℕ) (i : ℕ) → length (word_of from by pair) ≤ length lent → Spelled from by pair lent after i 0 → after ≡ written (word_of from by pair) lent
  spelled-all lent after i room s = written_is (word_of from by pair) lent after s.long room (λ j l. s.signs j (omega arith) l) s.behind
