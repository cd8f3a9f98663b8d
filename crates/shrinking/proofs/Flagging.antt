-- Flagging the classes of marked states: none yet, and one state more.
use mathlib.Core.Path.{◌≡◌, refl, sym, ◌∙◌}
use mathlib.Core.Logic.{◌≢◌}
use mathlib.Core.Bool.{Bool, true, false, ◌||◌, ◌&&◌, or-true, or-false}
use mathlib.Core.List.{List}
use Prim.Native.Nat.{ℕ, suc, ◌+◌, ◌<◌}
use native.Mathlib.Numerals.{add-one}
use native.Mathlib.Decide.{ℕ_discrete}
use native.Mathlib.Omega.{arith}
use borrow.Author.Tests.{eq-eqb, ne_eqb}
use lib.Dec.{eqb}
use lib.ListN.{length, set, length-set}
use lib.Seq.{get_or-set_same, get_or-set_other}
use Rattle.counting.specs.Lists.{at}
use Rattle.counting.specs.Least.{pick}
use Rattle.counting.specs.Counts.{any}
use Rattle.counting.proofs.Cases.{by_test}
use Rattle.shrinking.specs.Reached.{holds, flagged_by, Flagged}

module _ (reached classes : List ℕ) (q : ℕ) (flags : List ℕ) where
  -- the flags by whether the state is marked
  pub flagged-by : at reached q ≡ 1 → set flags (at classes q) 1 ≡ flagged_by reached classes q flags
  unfolding flagged_by pick
  flagged-by e = rw (eq-eqb (at reached q) 1 e) refl

  pub flagged_not : at reached q ≢ 1 → flags ≡ flagged_by reached classes q flags
  unfolding flagged_by pick
  flagged_not u = rw (ne_eqb (at reached q) 1 u) refl

-- both, for the search
pub ruleset one_state = (flagged-by, flagged_not)

pub flags_none : (reached classes flags : List ℕ) → ((c : ℕ) → c < length flags → at flags c ≡ 0) → Flagged reached classes 0 flags
unfolding holds any pick
flags_none reached classes flags h = h

module _ (reached classes : List ℕ) (q : ℕ) (flags : List ℕ) (inside : at classes q < length flags) (r : Flagged reached classes q flags) where
  abbrev marked : Bool
  marked = eqb (at reached q) 1

  more : (c : ℕ) → holds reached classes (suc q) c ≡ (holds reached classes q c || (marked && eqb (at classes q) c))
  unfolding holds any
  more c = refl

  with_flag : marked ≡ true → Flagged reached classes (suc q) (set flags (at classes q) 1)
  unfolding pick
  with_flag m c k = elim (ℕ_discrete c (at classes q)) [
    | yes d ↦ rw (more c, m, eq-eqb (at classes q) c (sym d), or-true (holds reached classes q c), d) (get_or-set_same flags (at classes q) 1 0 inside)
    | no u ↦
        rw (more c, m, ne_eqb (at classes q) c (λ e. u (sym e)), or-false (holds reached classes q c))
        (get_or-set_other flags (at classes q) c 1 0 u ∙ r c (omega (arith, length-set flags (at classes q) 1)))
  ]

  without : marked ≡ false → Flagged reached classes (suc q) flags
  without m c k = rw (more c, m, or-false (holds reached classes q c)) (r c k)

  pub flags_more : (u : List ℕ) → u ≡ flagged_by reached classes q flags → Flagged reached classes (q + 1) u
  unfolding flagged_by pick
  flags_more u e = rw (add-one q, e) (by_test marked (λ m. rw m (with_flag m)) (λ m. rw m (without m)))
