-- The sign plan: its range and its values by one computed test each; and the word that a line spells, over any list of 256 signs below 47.
use mathlib.Core.Path.{◌≡◌, refl}
use mathlib.Core.List.{List, [], ◌∷◌}
use Prim.Native.Nat.{ℕ, zero, suc, ◌<◌}
use native.Mathlib.Nat.{le_of_suc-le-suc, not-suc-le-zero}
use native.Mathlib.Decide.{dec_lt}
use native.Mathlib.Omega.{arith}
use borrow.Author.Tests.{eqb-true, ltb-true}
use lib.Dec.{eqb, ltb}
use lib.ListN.{length, length-map, get_or-eq_default}
use Rattle.counting.specs.Lists.{at}
use Rattle.counting.specs.Least.{pick}
use Rattle.counting.specs.Counts.{all}
use Rattle.counting.proofs.Tallies.{all_iff}
use Rattle.automaton.specs.Words.{Word}
use Rattle.running.specs.Plan.{sign_of, plan1, SignPlan, spelled}

-- document 01's list, at every byte
pub plan_signs : (b : ℕ) → b < 256 → at plan1 b ≡ sign_of b
unfolding plan1 sign_of all pick
plan_signs b l = eqb-true (at plan1 b) (sign_of b) ((all_iff 256 (λ b. eqb (at plan1 b) (sign_of b))).0 refl b l)

-- the range rule
pub plan_1 : SignPlan plan1
unfolding plan1 all
plan_1 = record { long = refl; below = λ b l. ltb-true (at plan1 b) 47 ((all_iff 256 (λ b. ltb (at plan1 b) 47)).0 refl b l) }

module _ (plan : List ℕ) where
  pub spelled-length : (line : List ℕ) → length (spelled plan line) ≡ length line
  unfolding spelled
  spelled-length line = length-map line (at plan)

  pub spelled_at : (line : List ℕ) (i : ℕ) → i < length line → at (spelled plan line) i ≡ at plan (at line i)
  unfolding spelled
  spelled_at [] i l = absurd (not-suc-le-zero l)
  spelled_at (b ∷ line) zero l = refl
  spelled_at (b ∷ line) (suc i) l = spelled_at line i (le_of_suc-le-suc l)

  -- past the plan's end every sign is 0
  plan_below : SignPlan plan → (b : ℕ) → at plan b < 47
  plan_below p b = by (dec_lt b 256)
    where
      by : Dec (b < 256) → at plan b < 47
      by (yes l) = p.below b l
      by (no u) = rw (get_or-eq_default plan 0 {n = b} (omega (arith, p.long))) (omega arith)

  -- a line spells a word of 47 signs
  pub spelled_word : SignPlan plan → (line : List ℕ) → Word 47 (spelled plan line)
  unfolding spelled
  spelled_word p [] = tt
  spelled_word p (b ∷ line) = (plan_below p b, spelled_word p line)
