-- The ways out of a due field, each with its facts, and that there is no other.
use mathlib.Core.Path.{◌≡◌}
use mathlib.Core.Logic.{◌≢◌}
use mathlib.Core.List.{List, [], ◌∷◌}
use Prim.Native.Nat.{ℕ, ◌+◌, ◌≤◌, ◌<◌}
use native.Mathlib.Decide.{ℕ_discrete, dec_lt}
use native.Mathlib.Omega.{arith}
use borrow.Author.Tests.{lt-ltb, le-ltb, eq-eqb, ne_eqb}
use lib.ListN.{length, get_or}
use Rattle.counting.specs.Least.{pick}
use Rattle.lending.specs.Pairs.{pair_at}
use Rattle.table.specs.Answers.{gives, refuses}
use Rattle.table.specs.Judging.{◌and_then◌, refuse, field_due}
use Rattle.table.specs.Rows.{Whole, Cut, head, body}

module _ (file : List ℕ) (at tag size : ℕ) where
  pub no_head : length file < at + 3 → field_due file at tag size ≡ refuses 1 (length file)
  unfolding field_due refuse pick ◌and_then◌
  no_head h = rw (lt-ltb _ _ h)

  pub wrong_tag : at + 3 ≤ length file → get_or file at 0 ≢ tag → field_due file at tag size ≡ refuses 2 at
  unfolding field_due refuse pick ◌and_then◌
  wrong_tag h t = rw (le-ltb _ _ h, ne_eqb _ _ t)

  pub wrong_size : at + 3 ≤ length file → get_or file at 0 ≡ tag → pair_at file (at + 1) ≢ size → field_due file at tag size ≡ refuses 4 (at + 1)
  unfolding field_due refuse pick ◌and_then◌
  wrong_size h t s = rw (le-ltb _ _ h, eq-eqb _ _ t, ne_eqb _ _ s)

  pub no_body : at + 3 ≤ length file → get_or file at 0 ≡ tag → pair_at file (at + 1) ≡ size → length file < at + 3 + size → field_due file at tag size ≡ refuses 1 (length file)
  unfolding field_due refuse pick ◌and_then◌
  no_body h t s b = rw (le-ltb _ _ h, eq-eqb _ _ t, eq-eqb _ _ s, lt-ltb _ _ b)

  pub cut : Cut file at tag size → field_due file at tag size ≡ refuses 1 (length file)
  cut (head h) = no_head h
  cut (body h t s b) = no_body h t s b

  pub whole : Whole file at tag size → field_due file at tag size ≡ gives ((at + 3) ∷ size ∷ [])
  unfolding field_due refuse pick ◌and_then◌
  whole w = rw (le-ltb _ _ w.headed, eq-eqb _ _ w.tagged, eq-eqb _ _ w.sized, le-ltb _ _ w.bodied)

  -- how a due field comes out
  pub data Outcome : Type 0 where
    is_cut : Cut file at tag size → Outcome
    other_tag : at + 3 ≤ length file → get_or file at 0 ≢ tag → Outcome
    other_size : at + 3 ≤ length file → get_or file at 0 ≡ tag → pair_at file (at + 1) ≢ size → Outcome
    is_whole : Whole file at tag size → Outcome

  pub outcome : Outcome
  outcome = headed (dec_lt (length file) (at + 3))
    where
      bodied : at + 3 ≤ length file → get_or file at 0 ≡ tag → pair_at file (at + 1) ≡ size → Dec (length file < at + 3 + size) → Outcome
      bodied h t s (yes b) = is_cut (body h t s b)
      bodied h t s (no b) = is_whole (record { headed = h; tagged = t; sized = s; bodied = omega arith })

      sized : at + 3 ≤ length file → get_or file at 0 ≡ tag → Dec (pair_at file (at + 1) ≡ size) → Outcome
      sized h t (yes s) = bodied h t s (dec_lt (length file) (at + 3 + size))
      sized h t (no s) = other_size h t s

      tagged : at + 3 ≤ length file → Dec (get_or file at 0 ≡ tag) → Outcome
      tagged h (yes t) = sized h t (ℕ_discrete (pair_at file (at + 1)) size)
      tagged h (no t) = other_tag h t

      headed : Dec (length file < at + 3) → Outcome
      headed (yes h) = is_cut (head h)
      headed (no h) = tagged (omega arith) (ℕ_discrete (get_or file at 0) tag)

  -- only a whole field gives
  pub gives_whole : {vs : List ℕ} → field_due file at tag size ≡ gives vs → Whole file at tag size
  gives_whole {vs} e = by outcome
    where
      by : Outcome → Whole file at tag size
      by (is_cut c) = let z : ◌≡◌ {A = ℕ} 0 1 = cc (cut c) in absurd (omega arith)
      by (other_tag h t) = let z : ◌≡◌ {A = ℕ} 0 1 = cc (wrong_tag h t) in absurd (omega arith)
      by (other_size h t s) = let z : ◌≡◌ {A = ℕ} 0 1 = cc (wrong_size h t s) in absurd (omega arith)
      by (is_whole w) = w
