-- The shrinking call has one answer and leaves one memory.
use mathlib.Core.Path.{◌≡◌, sym, ◌∙◌}
use mathlib.Core.List.{List, [], ◌∷◌}
use Prim.Native.Nat.{ℕ}
use Rattle.std.specs.Prelude.{Result}
use Rattle.table.specs.Leaving.{left}
use Rattle.table.proofs.Leavings.{left_said, left_lent}
use Rattle.table.specs.declared.answer.Refusal.{Refusal}
use Rattle.table.proofs.Uniqueness.{said_unique}
use Rattle.shrinking.specs.declared.shrinks.Size.{Size}
use Rattle.shrinking.specs.Calls.{told, shrink_leaves}

pub told_unique : (r s : Result Size Refusal) → told r ≡ told s → r ≡ s
told_unique = said_unique _ one
  where
    one : (x y : Size) → (x.rows ∷ x.length ∷ []) ≡ (y.rows ∷ y.length ∷ []) → x ≡ y
    one x y e =
        let f : x.rows ≡ y.rows = cc in
        let g : x.length ≡ y.length = cc in
        λ i. record { rows = f i; length = g i }

pub shrink_unique : (file work out : List ℕ) (r s : Result Size Refusal) (v w u t : List ℕ)
    → left (told r) (v ∷ u ∷ []) ≡ shrink_leaves file work out
    → left (told s) (w ∷ t ∷ []) ≡ shrink_leaves file work out
    → (r ≡ s) × (v ≡ w) × (u ≡ t)
shrink_unique file work out r s v w u t e f =
    let one : left (told r) (v ∷ u ∷ []) ≡ left (told s) (w ∷ t ∷ []) = e ∙ sym f in
    (told_unique r s (left_said one), left_lent one 0, left_lent one 1)
