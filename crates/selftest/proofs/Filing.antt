-- Marks and next states stored one behind the other are the file of the sample: each store as one element more, and the parts of the file.
-- Rests on the laws of `tab` and `flat`, and on those of stores.
use mathlib.Core.Path.{◌≡◌, refl, sym, ap, ap₂, ◌∙◌}
use mathlib.Core.List.{List, [], ◌∷◌, ◌++◌, append_assoc}
use Prim.Native.Nat.{ℕ, zero, suc, ◌+◌, ◌*◌, ◌/◌, ◌%◌, ◌≤◌, ◌<◌}
use native.Mathlib.Omega.{arith}
use lib.ListN.{length, set, take, length-append}
use lib.Seq.{sets, take_all, length-take-le}
use Rattle.counting.specs.Lists.{at, tab, flat}
use Rattle.counting.proofs.Tabs.{tab_list, take_more, flat-tab, flat_cong}
use Rattle.lending.specs.Memory.{written}
use Rattle.lending.specs.Pairs.{pair}
use Rattle.lending.proofs.Grids.{grid}
use Rattle.lending.proofs.Memories.{written-length, written_front}
use Rattle.table.specs.Encoding.{field_of, encode}
use Rattle.table.proofs.Encodings.{encoded_length}
use Rattle.shrinking.specs.Written.{sizes_bytes}
use Rattle.shrinking.proofs.Stores.{sets-append, sets-pair, sets-written, field_stored, sizes_length}
use Rattle.selftest.specs.Samples.{sample, pairs}

-- numbers of two bytes, one behind the other
pairs-append : (xs ys : List ℕ) → pairs (xs ++ ys) ≡ pairs xs ++ pairs ys
unfolding pairs
pairs-append [] ys = refl
pairs-append (x ∷ xs) ys = ap (λ (l : List ℕ). pair x ++ l) (pairs-append xs ys) ∙ sym (append_assoc (pair x) (pairs xs) (pairs ys))

pairs-length : (xs : List ℕ) → length (pairs xs) ≡ 2 * length xs
unfolding pairs pair
pairs-length [] = refl
pairs-length (x ∷ xs) = omega (arith, pairs-length xs)

pairs-tab : (k : ℕ) (f : ℕ → ℕ) → pairs (tab k f) ≡ flat k (λ a. pair (f a))
unfolding pairs tab flat
pairs-tab zero f = refl
pairs-tab (suc k) f = ap (λ (l : List ℕ). pair (f zero) ++ l) (pairs-tab k (λ i. f (suc i)))

pairs-flat : (n : ℕ) (g : ℕ → List ℕ) → pairs (flat n g) ≡ flat n (λ q. pairs (g q))
unfolding pairs flat
pairs-flat zero g = refl
pairs-flat (suc n) g = pairs-append (g zero) _ ∙ ap (λ (l : List ℕ). pairs (g zero) ++ l) (pairs-flat n (λ i. g (suc i)))

-- n × k numbers are n rows of k
pairs_grid : (n k : ℕ) (xs : List ℕ) → length xs ≡ n * k → pairs xs ≡ grid n k (λ q a. at xs (q * k + a))
pairs_grid n k xs e =
    ap pairs (sym (tab_list 0 xs) ∙ ap (λ (m : ℕ). tab m (at xs)) e ∙ sym (flat-tab k n _ (at xs) (λ q l. refl)))
    ∙ pairs-flat n (λ q. tab k (λ a. at xs (q * k + a)))
    ∙ flat_cong n (λ q l. pairs-tab k (λ a. at xs (q * k + a)))

module _ (out xs : List ℕ) (p i : ℕ) (l : i < length xs) (w : List ℕ) where
  front : length (take i xs) ≡ i
  front = length-take-le i xs (omega arith)

  -- one byte more
  pub byte_more : w ≡ sets out p (take i xs) → set w (p + i) (at xs i) ≡ sets out p (take (i + 1) xs)
  byte_more e =
      ap (λ (s : List ℕ). set s (p + i) (at xs i)) e
      ∙ sets-append out p (take i xs) (at xs i ∷ []) (p + i) (ap (λ (m : ℕ). p + m) (sym front))
      ∙ ap (sets out p) (sym (take_more xs i 0 l))

  -- one number of two bytes more
  pub pair_more : (j v : ℕ) (z : List ℕ) → w ≡ sets out p (pairs (take i xs)) → j ≡ p + 2 * i → v ≡ at xs i
      → z ≡ set (set w j (v / 256)) (j + 1) (v % 256)
      → z ≡ sets out p (pairs (take (i + 1) xs))
  unfolding pairs pair
  pair_more j v z e f g h =
      h
      ∙ sets-pair w j v
      ∙ ap₂ (λ (s : List ℕ) (x : ℕ). sets s j (pair x)) e g
      ∙ sets-append out p (pairs (take i xs)) (pair (at xs i)) j (omega (arith, f, pairs-length (take i xs), front))
      ∙ ap (sets out p) (sym (ap pairs (take_more xs i 0 l) ∙ pairs-append (take i xs) (at xs i ∷ [])))

module _ (k : ℕ) (marks nexts : List ℕ) (e : length nexts ≡ length marks * k) where
  parts : encode (sample k marks nexts) ≡ sizes_bytes (length marks) k 0 ++ marks ++ field_of 3 (pairs nexts)
  unfolding encode field_of pair sizes_bytes
  parts =
      ap₂ (λ (ms ns : List ℕ). field_of 1 (pair (length marks) ++ pair k ++ pair 0) ++ field_of 2 ms ++ field_of 3 ns) (tab_list 0 marks) (sym (pairs_grid (length marks) k nexts e))

  -- the parts stored one behind the other are the file at the front
  pub table_stored : (out u v w z : List ℕ) → 12 + length marks + 3 + 2 * length nexts ≤ length out
      → u ≡ sets out 0 (sizes_bytes (length marks) k 0)
      → v ≡ sets u 12 marks
      → w ≡ set (set (set v (12 + length marks) 3) (12 + length marks + 1) (2 * length nexts / 256)) (12 + length marks + 1 + 1) (2 * length nexts % 256)
      → z ≡ sets w (12 + length marks + 3) (pairs nexts)
      → z ≡ written (encode (sample k marks nexts)) out
  table_stored out u v w z room a b c d =
      field_stored v (pairs nexts) (12 + length marks) (2 * length nexts) w z (pairs-length nexts) c d
      ∙ ap (λ (s : List ℕ). sets s (12 + length marks) field) (b ∙ ap (λ (s : List ℕ). sets s 12 marks) a ∙ sets-append out 0 sizes marks 12 (sizes_length (length marks) k 0))
      ∙ sets-append out 0 (sizes ++ marks) field (12 + length marks) (omega (arith, length-append sizes marks, sizes_length (length marks) k 0))
      ∙ ap (sets out 0) (sym parts)
      ∙ sets-written out (encode (sample k marks nexts)) (omega (arith, encoded_length (sample k marks nexts), e))
    where
      sizes : List ℕ
      sizes = sizes_bytes (length marks) k 0

      field : List ℕ
      field = field_of 3 (pairs nexts)

module _ (k : ℕ) (marks nexts out after : List ℕ) (e : after ≡ written (encode (sample k marks nexts)) out) where
  -- lent memory stays as long as it was
  pub stored_length : 12 + length marks + 3 + 2 * (length marks * k) ≤ length out → length after ≡ length out
  stored_length room = ap length e ∙ written-length (encode (sample k marks nexts)) out (omega (arith, encoded_length (sample k marks nexts), room))

  -- a file written over lent memory of its own length is all of it
  pub whole_stored : (ms ns : List ℕ) → marks ≡ ms → nexts ≡ ns → length (encode (sample k ms ns)) ≡ length out → after ≡ encode (sample k ms ns)
  whole_stored ms ns m n long =
      let file = encode (sample k ms ns) in
      let w = written file out in
      e
      ∙ ap₂ (λ (x y : List ℕ). written (encode (sample k x y)) out) m n
      ∙ sym (take_all (length file) w (omega (arith, written-length file out (omega (arith, long)), long)))
      ∙ written_front (length file) file out refl
