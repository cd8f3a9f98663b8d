-- Bytes stored one behind the other: stores behind stores, a number of two bytes, a file at the front; and each store of the writing of
-- the rows as one part more. Rests on the laws of `tab` and `flat`.
use mathlib.Core.Path.{◌≡◌, refl, sym, ap, ◌∙◌}
use mathlib.Core.List.{List, [], ◌∷◌, ◌++◌}
use Prim.Native.Nat.{ℕ, suc, ◌+◌, ◌*◌, ◌/◌, ◌%◌, ◌≤◌}
use native.Mathlib.Nat.{zero-add, add-zero, add-suc, suc-add, mul_comm, mul-le-mul_right}
use native.Mathlib.Numerals.{add-one}
use native.Mathlib.Omega.{arith}
use lib.ListN.{length, set, drop, length-take, length-drop}
use lib.Seq.{sets, sets-eq}
use Rattle.counting.specs.Lists.{at, tab, flat}
use Rattle.counting.proofs.Tabs.{tab-length, tab_more, flat-length, flat_more}
use Rattle.automaton.specs.Machine.{Machine}
use Rattle.lending.specs.Memory.{written}
use Rattle.lending.specs.Pairs.{pair}
use Rattle.lending.proofs.Grids.{grid_length}
use Rattle.table.specs.Encoding.{machine_in, Held, field_of}
use Rattle.shrinking.specs.Written.{Writable, row_of, sizes_bytes, marks_bytes, row_bytes, rows_bytes}
use Rattle.shrinking.specs.declared.writing.RowLists.{RowLists}

-- stores behind stores
pub sets-append : (l : List ℕ) (i : ℕ) (xs ys : List ℕ) (j : ℕ) → j ≡ i + length xs → sets (sets l i xs) j ys ≡ sets l i (xs ++ ys)
sets-append l i [] ys j e = ap (λ (p : ℕ). sets l p ys) (e ∙ add-zero i)
sets-append l i (x ∷ xs) ys j e = sets-append (set l i x) (suc i) xs ys j (e ∙ add-suc i (length xs) ∙ sym (suc-add i (length xs)))

-- the two bytes of a number
pub sets-pair : (l : List ℕ) (i v : ℕ) → set (set l i (v / 256)) (i + 1) (v % 256) ≡ sets l i (pair v)
unfolding pair
sets-pair l i v = ap (λ (j : ℕ). set (set l i (v / 256)) j (v % 256)) (add-one i)

-- the head of field 3, and its body behind it
pub field_stored : (out body : List ℕ) (p size : ℕ) (v w : List ℕ) → length body ≡ size
    → v ≡ set (set (set out p 3) (p + 1) (size / 256)) (p + 1 + 1) (size % 256)
    → w ≡ sets v (p + 3) body
    → w ≡ sets out p (field_of 3 body)
unfolding field_of pair
field_stored out body p size v w long e f =
    f
    ∙ ap (λ (s : List ℕ). sets s (p + 3) body) (e ∙ sets-pair (set out p 3) (p + 1) size ∙ ap (λ (j : ℕ). sets (set out p 3) j (pair size)) (add-one p))
    ∙ sets-append out p (3 ∷ pair size) body (p + 3) refl
    ∙ ap (λ (l : ℕ). sets out p (3 ∷ pair l ++ body)) (sym long)

-- a file at the front
pub sets-written : (l file : List ℕ) → length file ≤ length l → sets l 0 file ≡ written file l
unfolding written
sets-written l file h = sets-eq file l 0 (rw (zero-add (length file)) h) ∙ ap (λ (m : ℕ). file ++ drop m l) (zero-add (length file))

-- the stores of field 1 and of the head of field 2
pub sizes_stored : (out : List ℕ) (rows k start : ℕ) (v w x y z : List ℕ)
    → v ≡ set (set (set out 0 1) 1 (6 / 256)) 2 (6 % 256)
    → w ≡ set (set v 3 (rows / 256)) 4 (rows % 256)
    → x ≡ set (set w 5 (k / 256)) 6 (k % 256)
    → y ≡ set (set x 7 (start / 256)) 8 (start % 256)
    → z ≡ set (set (set y 9 2) 10 (rows / 256)) 11 (rows % 256)
    → z ≡ sets out 0 (sizes_bytes rows k start)
unfolding sizes_bytes field_of pair
sizes_stored out rows k start v w x y z a b c d e = rw (e, d, c, b, a) refl

pub sizes_length : (rows k start : ℕ) → 12 ≡ 0 + length (sizes_bytes rows k start)
unfolding sizes_bytes field_of pair
sizes_length rows k start = refl

pub marks_length : (marks rows : List ℕ) (i : ℕ) → length (marks_bytes marks rows i) ≡ i
unfolding marks_bytes
marks_length marks rows i = tab-length i _

-- one mark more
module _ (marks rows out : List ℕ) where
  pub marks_none : out ≡ sets out 12 (marks_bytes marks rows 0)
  unfolding marks_bytes tab
  marks_none = refl

  pub marks_more : (i : ℕ) (w : List ℕ) (q v : ℕ) → w ≡ sets out 12 (marks_bytes marks rows i) → v ≡ at marks q → q ≡ at rows i
      → set w (12 + i) v ≡ sets out 12 (marks_bytes marks rows (i + 1))
  unfolding marks_bytes
  marks_more i w q v e f g =
      ap (λ (s : List ℕ). set s (12 + i) v) e
      ∙ sets-append out 12 (marks_bytes marks rows i) (v ∷ []) (12 + i) (ap (λ (m : ℕ). 12 + m) (sym (marks_length marks rows i)))
      ∙ ap (λ (x : ℕ). sets out 12 (marks_bytes marks rows i ++ x ∷ [])) (f ∙ ap (at marks) g)
      ∙ ap (sets out 12) (sym (tab_more i _))

module _ (M : Machine) (lists : RowLists) (out : List ℕ) where
  -- one next state more
  pub row_none : (i p : ℕ) → out ≡ sets out p (row_bytes M lists i 0)
  unfolding row_bytes flat
  row_none i p = refl

  row_length : (i a : ℕ) → length (row_bytes M lists i a) ≡ 2 * a
  unfolding row_bytes pair
  row_length i a = flat-length 2 a _ (λ b. refl) ∙ mul_comm a 2

  pub row_more : (i p a : ℕ) (w : List ℕ) (place v : ℕ) → w ≡ sets out p (row_bytes M lists i a) → place ≡ p + 2 * a
      → v ≡ row_of lists (M.next (at lists.rows.now i) a)
      → set (set w place (v / 256)) (place + 1) (v % 256) ≡ sets out p (row_bytes M lists i (a + 1))
  unfolding row_bytes
  row_more i p a w place v e f g =
      sets-pair w place v
      ∙ ap (λ (s : List ℕ). sets s place (pair v)) e
      ∙ sets-append out p (row_bytes M lists i a) (pair v) place (omega (arith, f, row_length i a))
      ∙ ap (λ (x : ℕ). sets out p (row_bytes M lists i a ++ pair x)) g
      ∙ ap (sets out p) (sym (flat_more a _))

  -- one row more
  pub rows_none : (p : ℕ) → out ≡ sets out p (rows_bytes M lists 0)
  unfolding rows_bytes flat
  rows_none p = refl

  pub rows-length : (i : ℕ) → length (rows_bytes M lists i) ≡ 2 * (i * M.signs)
  unfolding rows_bytes row_bytes
  rows-length i = grid_length i M.signs (λ j a. row_of lists (M.next (at lists.rows.now j) a))

  pub rows_more : (p i : ℕ) (w : List ℕ) → w ≡ sets out p (rows_bytes M lists i)
      → sets w (p + 2 * (i * M.signs)) (row_bytes M lists i M.signs) ≡ sets out p (rows_bytes M lists (i + 1))
  unfolding rows_bytes
  rows_more p i w e =
      ap (λ (s : List ℕ). sets s (p + 2 * (i * M.signs)) (row_bytes M lists i M.signs)) e
      ∙ sets-append out p (rows_bytes M lists i) (row_bytes M lists i M.signs) (p + 2 * (i * M.signs)) (ap (λ (m : ℕ). p + m) (sym (rows-length i)))
      ∙ ap (sets out p) (sym (flat_more i (λ j. row_bytes M lists j M.signs)))

-- the next states of the rows are no more than those of the states
pub rows_most : (n k start : ℕ) (nexts work : List ℕ) (rows : ℕ) → Held n k start nexts → Writable (machine_in n k start [] nexts) rows work → rows * k ≤ 32000
rows_most n k start nexts work rows h w = omega (arith, h.range.nexts_most, mul-le-mul_right {m = rows} {n = n} k few)
  where
    -- the slice has the classes of n states behind the rows, so the rows in it are as many as they are said to be
    few : rows ≤ n
    few = omega (arith, h.range.some_state, w.most, w.classed, length-take rows (drop (3 * n) work), length-take n (drop (6 * n) work), length-drop (3 * n) work, length-drop (6 * n) work)
