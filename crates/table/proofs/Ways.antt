-- The ways out of the three fields, each with its facts: a due field's refusal, bad contents, or what the field gives.
use mathlib.Core.Path.{◌≡◌, ◌∙◌}
use mathlib.Core.Bool.{true, false}
use mathlib.Core.List.{List, [], ◌∷◌}
use Prim.Native.Nat.{ℕ, ◌+◌, ◌*◌, ◌≤◌, ◌<◌}
use borrow.Author.Tests.{lt-ltb, le-ltb, le-leb, lt-leb}
use Rattle.table.specs.Answers.{gives, refuses}
use Rattle.table.specs.Judging.{field_due, outside, sizes_due, bad_mark, marks_due, bad_next, nexts_due, states_of, signs_of, start_of}
use Rattle.table.specs.Rows.{Whole}
use Rattle.table.proofs.Chains.{stops, goes_on, refused, passed}
use Rattle.table.proofs.Dues.{whole}

module _ (file : List ℕ) where
  pub sizes_cut : {number place : ℕ} → field_due file 0 1 6 ≡ refuses number place → sizes_due file ≡ refuses number place
  unfolding sizes_due
  sizes_cut e = stops _ e

  pub sizes_range : Whole file 0 1 6 → outside (states_of file) (signs_of file) ≡ true → sizes_due file ≡ refuses 5 3
  unfolding sizes_due
  sizes_range w e = goes_on _ (whole file 0 1 6 w) ∙ stops _ (refused 5 3 e)

  pub sizes_start : Whole file 0 1 6 → outside (states_of file) (signs_of file) ≡ false → states_of file ≤ start_of file → sizes_due file ≡ refuses 6 7
  unfolding sizes_due
  sizes_start w e l = goes_on _ (whole file 0 1 6 w) ∙ goes_on _ (passed 5 3 e) ∙ stops _ (refused 6 7 (le-leb _ _ l))

  pub sizes_good : Whole file 0 1 6
      → outside (states_of file) (signs_of file) ≡ false
      → start_of file < states_of file
      → sizes_due file ≡ gives (states_of file ∷ signs_of file ∷ start_of file ∷ [])
  unfolding sizes_due
  sizes_good w e l = goes_on _ (whole file 0 1 6 w) ∙ goes_on _ (passed 5 3 e) ∙ goes_on _ (passed 6 7 (lt-leb _ _ l))

  module _ (n : ℕ) where
    pub marks_cut : {number place : ℕ} → field_due file 9 2 n ≡ refuses number place → marks_due file n ≡ refuses number place
    unfolding marks_due
    marks_cut e = stops _ e

    pub marks_bad : Whole file 9 2 n → bad_mark file n < n → marks_due file n ≡ refuses 7 (12 + bad_mark file n)
    unfolding marks_due
    marks_bad w l = goes_on _ (whole file 9 2 n w) ∙ stops _ (refused 7 _ (lt-ltb _ _ l))

    pub marks_good : Whole file 9 2 n → n ≤ bad_mark file n → marks_due file n ≡ gives (12 ∷ n ∷ [])
    unfolding marks_due
    marks_good w l = goes_on _ (whole file 9 2 n w) ∙ goes_on _ (passed 7 _ (le-ltb _ _ l))

    module _ (m : ℕ) where
      pub nexts_cut : {number place : ℕ} → field_due file (12 + n) 3 (2 * m) ≡ refuses number place → nexts_due file n m ≡ refuses number place
      unfolding nexts_due
      nexts_cut e = stops _ e

      pub nexts_bad : Whole file (12 + n) 3 (2 * m) → bad_next file n m < m → nexts_due file n m ≡ refuses 8 (12 + n + 3 + 2 * bad_next file n m)
      unfolding nexts_due
      nexts_bad w l = goes_on _ (whole file (12 + n) 3 (2 * m) w) ∙ stops _ (refused 8 _ (lt-ltb _ _ l))

      pub nexts_good : Whole file (12 + n) 3 (2 * m) → m ≤ bad_next file n m → nexts_due file n m ≡ gives ((12 + n + 3) ∷ 2 * m ∷ [])
      unfolding nexts_due
      nexts_good w l = goes_on _ (whole file (12 + n) 3 (2 * m) w) ∙ goes_on _ (passed 8 _ (le-ltb _ _ l))
