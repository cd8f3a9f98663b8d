-- Marks and next states read in the part of the file that is a field's body are those of the file.
use mathlib.Core.Path.{◌≡◌, sym, ap, ap₂, ◌∙◌}
use mathlib.Core.List.{List}
use Prim.Native.Nat.{ℕ, ◌+◌, ◌*◌, ◌-◌, ◌≤◌, ◌<◌}
use native.Mathlib.Nat.{add_assoc, add-sub_cancel_left}
use native.Mathlib.Omega.{arith}
use lib.Dec.{ltb, leb}
use lib.ListN.{length, get_or, take, drop, length-take, length-drop}
use lib.Seq.{get_or-take, get_or-drop}
use Rattle.counting.specs.Least.{least}
use Rattle.counting.proofs.Leasts.{least_cong}
use Rattle.lending.specs.Pairs.{pair_at}
use Rattle.table.specs.Judging.{bad_mark, bad_next}
use Rattle.table.specs.Bodies.{part}

module _ (file : List ℕ) (place size : ℕ) where
  -- a part from a start to an end, as code lends it
  pub between : take ((place + size) - place) (drop place file) ≡ part file place size
  between = ap (λ (n : ℕ). take n (drop place file)) (add-sub_cancel_left place size)

  pub part_length : place + size ≤ length file → length (part file place size) ≡ size
  part_length h = simp (length-take, length-drop) (omega arith)

  pub part_at : (i : ℕ) → i < size → get_or (part file place size) i 0 ≡ get_or file (place + i) 0
  part_at i h = rw (get_or-take, get_or-drop)

  pub part_pair : (i : ℕ) → i + 1 < size → pair_at (part file place size) i ≡ pair_at file (place + i)
  unfolding pair_at
  part_pair i h =
      ap₂ (λ (x y : ℕ). x * 256 + y) (part_at i (omega arith)) (part_at (i + 1) h ∙ ap (λ (j : ℕ). get_or file j 0) (sym (add_assoc place i 1)))

module _ (file : List ℕ) (n : ℕ) where
  pub bad_in_marks : 12 + n ≤ length file
      → least (length (part file 12 n)) (λ q. ltb 1 (get_or (part file 12 n) q 0)) ≡ bad_mark file n
  unfolding bad_mark
  bad_in_marks h =
      rw (part_length file 12 n h) (least_cong n _ _ (λ q l. ap (ltb 1) (part_at file 12 n q l)))

  pub bad_in_nexts : (m : ℕ) → 12 + n + 3 + 2 * m ≤ length file
      → least m (λ i. leb n (pair_at (part file (12 + n + 3) (2 * m)) (2 * i))) ≡ bad_next file n m
  unfolding bad_next
  bad_in_nexts m h = least_cong m _ _ (λ i l. ap (leb n) (part_pair file (12 + n + 3) (2 * m) (2 * i) (omega arith)))
