-- A field in a file: what `field_of` writes stands whole, and a whole field of bytes is what `field_of` writes.
-- Rests on the laws of parts of a list and of the two bytes of a number.
use mathlib.Core.Path.{◌≡◌, sym, ap, ap₂, ◌∙◌}
use mathlib.Core.List.{List, [], ◌∷◌, ◌++◌}
use Prim.Native.Nat.{ℕ, ◌+◌}
use native.Mathlib.Nat.{add-zero, div-add-mod'}
use native.Mathlib.Omega.{arith}
use lib.ListN.{length, get_or, take, drop, length-append, length-drop}
use lib.Seq.{get_or-drop, drop-drop, take_at, drop_at}
use Rattle.counting.specs.Lists.{tab}
use Rattle.counting.proofs.Tabs.{tab-length, drop-tab}
use Rattle.lending.specs.Pairs.{pair_at, pair}
use Rattle.lending.proofs.Halves.{pair-drop, pair-written}
use Rattle.table.specs.Rows.{Whole}
use Rattle.table.specs.Bodies.{part}
use Rattle.table.specs.Encoding.{field_of, Bytes}

-- a field stands whole at a place, with this body, and this is left behind it
pub record Written (file : List ℕ) (at tag size : ℕ) (body rest : List ℕ) : Type 0 where
  pub whole : Whole file at tag size
  pub holds : part file (at + 3) size ≡ body
  pub behind : drop (at + 3 + size) file ≡ rest

module _ (file : List ℕ) (at tag size : ℕ) where
  pub written : (body rest : List ℕ) → length body ≡ size → drop at file ≡ field_of tag body ++ rest → Written file at tag size body rest
  unfolding field_of pair pair_at
  written body rest l e = record {
    whole = record {
      headed = omega (arith, long);
      tagged = ap (λ (j : ℕ). get_or file j 0) (sym (add-zero at)) ∙ sym (get_or-drop at file 0 0) ∙ ap (λ (s : List ℕ). get_or s 0 0) e;
      sized = pair-drop at file 1 ∙ ap (λ (s : List ℕ). pair_at s 1) e ∙ div-add-mod' (length body) 256 ∙ l;
      bodied = omega (arith, long);
    };
    holds = ap (take size) headless ∙ take_at body rest size l;
    behind = sym (drop-drop size (at + 3) file) ∙ ap (drop size) headless ∙ drop_at body rest size l;
  }
    where
      long : length file ≡ at + 3 + size + length rest
      long = omega (arith, length-drop at file, ap length e, length-append body rest)

      headless : drop (at + 3) file ≡ body ++ rest
      headless = sym (drop-drop 3 at file) ∙ ap (drop 3) e

  pub writes : Bytes file → Whole file at tag size → drop at file ≡ field_of tag (tab size (λ j. get_or file (at + 3 + j) 0)) ++ drop (at + 3 + size) file
  unfolding field_of pair tab
  writes bytes w =
      drop-tab 0 3 at file w.headed ∙ ap₂ ◌++◌ head (drop-tab 0 size (at + 3) file w.bodied)
    where
      body : List ℕ
      body = tab size (λ j. get_or file (at + 3 + j) 0)

      head : tab 3 (λ j. get_or file (at + j) 0) ≡ tag ∷ pair (length body)
      head =
          ap₂ ◌∷◌ (ap (λ (j : ℕ). get_or file j 0) (add-zero at) ∙ w.tagged)
          (ap (λ (j : ℕ). get_or file (at + 1) 0 ∷ get_or file j 0 ∷ []) (omega arith) ∙ sym (pair-written file (at + 1) (bytes _)) ∙ ap pair (w.sized ∙ sym (tab-length size _)))
