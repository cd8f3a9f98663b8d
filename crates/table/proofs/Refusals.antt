-- Each refusal is given exactly when the paper's table says so, and a file is accepted exactly when it is right.
use mathlib.Core.Path.{◌≡◌, sym, ap, subst₂, ◌∙◌}
use mathlib.Core.Logic.{◌↔◌}
use mathlib.Core.List.{List, [], ◌∷◌}
use Prim.Native.Nat.{ℕ, zero, suc, ◌+◌, ◌*◌}
use native.Mathlib.Nat.{le_of_eq}
use native.Mathlib.Omega.{arith}
use borrow.Author.Tests.{lt-ltb, le-ltb, le-leb, lt-leb}
use lib.ListN.{length}
use Rattle.counting.proofs.Leasts.{least_first, least_none}
use Rattle.table.specs.Answers.{gives, refuses}
use Rattle.table.specs.Judging.{field_due, sizes_due, marks_due, nexts_due, judged, bad_mark, bad_next, states_of, signs_of, start_of, end_of}
use Rattle.table.specs.Rows.{SizesRight, MarksRight, NextsRight, Right, Due, first, second, third, Given, Row1, Row2, Row3, Row4, Row5, Row6, Row7, Row8}
use Rattle.table.proofs.Chains.{stops, goes_on, refused, passed}
use Rattle.table.proofs.Dues.{cut, wrong_tag, wrong_size}
use Rattle.table.proofs.Ways.{sizes_cut, sizes_range, sizes_start, sizes_good, marks_cut, marks_bad, marks_good, nexts_cut, nexts_bad, nexts_good}
use Rattle.table.proofs.Ranges.{not-outside, is-outside}
use Rattle.table.proofs.Outcomes.{Comes, refusing, giving, comes}

module _ (file : List ℕ) where
  -- what each right part of the file gives
  pub sizes_right : SizesRight file → sizes_due file ≡ gives (states_of file ∷ signs_of file ∷ start_of file ∷ [])
  sizes_right s = sizes_good file s.whole (not-outside _ _ s.range) s.start-in

  pub marks_right : MarksRight file → marks_due file (states_of file) ≡ gives (12 ∷ states_of file ∷ [])
  unfolding bad_mark
  marks_right s = marks_good file _ s.whole (le_of_eq (sym (least_none _ _ (λ q h. le-ltb _ _ (s.marks q h)))))

  pub nexts_right : NextsRight file
      → nexts_due file (states_of file) (states_of file * signs_of file) ≡ gives ((12 + states_of file + 3) ∷ 2 * (states_of file * signs_of file) ∷ [])
  unfolding bad_next
  nexts_right s = nexts_good file _ _ s.whole (le_of_eq (sym (least_none _ _ (λ i h. lt-leb _ _ (s.nexts i h)))))

  -- a refusal of a part stands, once what comes before it is right
  pub in_sizes : {number place : ℕ} → sizes_due file ≡ refuses number place → judged file ≡ refuses number place
  unfolding judged
  in_sizes e = stops _ e

  pub in_marks : {number place : ℕ} → SizesRight file → marks_due file (states_of file) ≡ refuses number place → judged file ≡ refuses number place
  unfolding judged
  in_marks s e = goes_on _ (sizes_right s) ∙ stops _ e

  pub in_nexts : {number place : ℕ} → MarksRight file → nexts_due file (states_of file) (states_of file * signs_of file) ≡ refuses number place → judged file ≡ refuses number place
  unfolding judged
  in_nexts t e = goes_on _ (sizes_right t.sizes) ∙ goes_on _ (marks_right t) ∙ stops _ e

  in_field : {at tag size number place : ℕ} → Due file at tag size → field_due file at tag size ≡ refuses number place → judged file ≡ refuses number place
  in_field first e = in_sizes (sizes_cut file e)
  in_field (second s) e = in_marks s (marks_cut file _ e)
  in_field (third t) e = in_nexts t (nexts_cut file _ _ e)

  by_row_1 : (place : ℕ) → Row1 file place → judged file ≡ refuses 1 place
  by_row_1 place (at, tag, size, d, c, e) = in_field d (cut file at tag size c) ∙ ap (refuses 1) (sym e)

  by_row_2 : (place : ℕ) → Row2 file place → judged file ≡ refuses 2 place
  by_row_2 place (tag, size, d, h, t) = in_field d (wrong_tag file place tag size h t)

  pub by_row_3 : (place : ℕ) → Row3 file place → judged file ≡ refuses 3 place
  unfolding judged
  by_row_3 place (r, e, l) =
      goes_on _ (sizes_right r.marks.sizes)
      ∙ goes_on _ (marks_right r.marks)
      ∙ goes_on _ (nexts_right r)
      ∙ stops _ (refused 3 _ (lt-ltb (end_of (states_of file) (states_of file * signs_of file)) (length file) (omega arith)))
      ∙ ap (refuses 3) (sym e)

  by_row_4 : (place : ℕ) → Row4 file place → judged file ≡ refuses 4 place
  by_row_4 place (at, tag, size, d, h, t, s, e) = in_field d (wrong_size file at tag size h t s) ∙ ap (refuses 4) (sym e)

  by_row_5 : (place : ℕ) → Row5 file place → judged file ≡ refuses 5 place
  by_row_5 place (w, u, e) = in_sizes (sizes_range file w (is-outside _ _ u)) ∙ ap (refuses 5) (sym e)

  by_row_6 : (place : ℕ) → Row6 file place → judged file ≡ refuses 6 place
  by_row_6 place (w, r, l, e) = in_sizes (sizes_start file w (not-outside _ _ r) l) ∙ ap (refuses 6) (sym e)

  by_row_7 : (place : ℕ) → Row7 file place → judged file ≡ refuses 7 place
  unfolding bad_mark
  by_row_7 place (q, s, w, l, b, u, e) =
      let f : bad_mark file (states_of file) ≡ q = least_first _ _ q l (lt-ltb _ _ b) (λ p h. le-ltb _ _ (u p h)) in
      in_marks s (marks_bad file _ w (rw f l)) ∙ ap (λ (x : ℕ). refuses 7 (12 + x)) f ∙ ap (refuses 7) (sym e)

  by_row_8 : (place : ℕ) → Row8 file place → judged file ≡ refuses 8 place
  unfolding bad_next
  by_row_8 place (i, t, w, l, b, u, e) =
      let f : bad_next file (states_of file) (states_of file * signs_of file) ≡ i = least_first _ _ i l (le-leb _ _ b) (λ j h. lt-leb _ _ (u j h)) in
      in_nexts t (nexts_bad file _ _ w (rw f l)) ∙ ap (λ (x : ℕ). refuses 8 (12 + states_of file + 3 + 2 * x)) f ∙ ap (refuses 8) (sym e)

  given : (number place : ℕ) → Given file number place → judged file ≡ refuses number place
  given zero place g = absurd g
  given (suc zero) place g = by_row_1 place g
  given (suc (suc zero)) place g = by_row_2 place g
  given (suc (suc (suc zero))) place g = by_row_3 place g
  given (suc (suc (suc (suc zero)))) place g = by_row_4 place g
  given (suc (suc (suc (suc (suc zero))))) place g = by_row_5 place g
  given (suc (suc (suc (suc (suc (suc zero)))))) place g = by_row_6 place g
  given (suc (suc (suc (suc (suc (suc (suc zero))))))) place g = by_row_7 place g
  given (suc (suc (suc (suc (suc (suc (suc (suc zero)))))))) place g = by_row_8 place g
  given (suc (suc (suc (suc (suc (suc (suc (suc (suc n))))))))) place g = absurd g

  -- a refusal is given exactly when its row of the paper's table says so
  pub refused_exactly : (number place : ℕ) → (judged file ≡ refuses number place) ↔ Given file number place
  refused_exactly number place = (from (comes file), given number place)
    where
      from : Comes file (judged file) (Right file) → judged file ≡ refuses number place → Given file number place
      from (refusing m p g e) e' =
          let q : m ≡ number = cc in
          let r : p ≡ place = cc in
          subst₂ (λ (x y : ℕ). Given file x y) q r g
      from (giving vs r e) e' = let z : ◌≡◌ {A = ℕ} 0 1 = cc in absurd (omega arith)

  -- a file is accepted exactly when it is right, and the answer is then n, k and start
  pub accepted_exactly : (vs : List ℕ) → (judged file ≡ gives vs) ↔ (Right file × (vs ≡ states_of file ∷ signs_of file ∷ start_of file ∷ []))
  unfolding judged
  accepted_exactly vs = (from (comes file), to)
    where
      right : Right file → judged file ≡ gives (states_of file ∷ signs_of file ∷ start_of file ∷ [])
      right r =
          goes_on _ (sizes_right r.fields.marks.sizes)
          ∙ goes_on _ (marks_right r.fields.marks)
          ∙ goes_on _ (nexts_right r.fields)
          ∙ goes_on _ (passed 3 _ (le-ltb _ _ (le_of_eq r.ends)))

      from : Comes file (judged file) (Right file) → judged file ≡ gives vs → Right file × (vs ≡ states_of file ∷ signs_of file ∷ start_of file ∷ [])
      from (refusing m p g e) e' = let z : ◌≡◌ {A = ℕ} 0 1 = cc in absurd (omega arith)
      from (giving ws r e) e' = (r, cc (right r))

      to : Right file × (vs ≡ states_of file ∷ signs_of file ∷ start_of file ∷ []) → judged file ≡ gives vs
      to p = right p.0 ∙ ap gives (sym p.1)

  -- the rows one by one
  pub row_1 : (place : ℕ) → (judged file ≡ refuses 1 place) ↔ Row1 file place
  row_1 = refused_exactly 1

  pub row_2 : (place : ℕ) → (judged file ≡ refuses 2 place) ↔ Row2 file place
  row_2 = refused_exactly 2

  pub row_3 : (place : ℕ) → (judged file ≡ refuses 3 place) ↔ Row3 file place
  row_3 = refused_exactly 3

  pub row_4 : (place : ℕ) → (judged file ≡ refuses 4 place) ↔ Row4 file place
  row_4 = refused_exactly 4

  pub row_5 : (place : ℕ) → (judged file ≡ refuses 5 place) ↔ Row5 file place
  row_5 = refused_exactly 5

  pub row_6 : (place : ℕ) → (judged file ≡ refuses 6 place) ↔ Row6 file place
  row_6 = refused_exactly 6

  pub row_7 : (place : ℕ) → (judged file ≡ refuses 7 place) ↔ Row7 file place
  row_7 = refused_exactly 7

  pub row_8 : (place : ℕ) → (judged file ≡ refuses 8 place) ↔ Row8 file place
  row_8 = refused_exactly 8
