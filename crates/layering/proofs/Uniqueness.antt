-- The layered call has one answer and leaves one memory.
use mathlib.Core.Path.{◌≡◌, sym, ◌∙◌}
use mathlib.Core.List.{List, [], ◌∷◌}
use Prim.Native.Nat.{ℕ}
use Rattle.std.specs.Prelude.{Result}
use Rattle.table.specs.Leaving.{left}
use Rattle.table.specs.declared.answer.Refusal.{Refusal}
use Rattle.table.proofs.Leavings.{left_said, left_lent}
use Rattle.table.proofs.Uniqueness.{said_unique}
use Rattle.layering.specs.declared.layers.Counts.{Counts}
use Rattle.layering.specs.Calls.{told, layers_leave}

pub told_unique : (r s : Result Counts Refusal) → told r ≡ told s → r ≡ s
told_unique = said_unique _ one
  where
    one : (x y : Counts) → (x.classes ∷ x.rounds ∷ []) ≡ (y.classes ∷ y.rounds ∷ []) → x ≡ y
    one x y e =
        let f : x.classes ≡ y.classes = cc in
        let g : x.rounds ≡ y.rounds = cc in
        λ i. record { classes = f i; rounds = g i }

pub layers_unique : (file work result : List ℕ) (r s : Result Counts Refusal) (v w u t : List ℕ)
    → left (told r) (v ∷ u ∷ []) ≡ layers_leave file work result
    → left (told s) (w ∷ t ∷ []) ≡ layers_leave file work result
    → (r ≡ s) × (v ≡ w) × (u ≡ t)
layers_unique file work result r s v w u t e f =
    let one : left (told r) (v ∷ u ∷ []) ≡ left (told s) (w ∷ t ∷ []) = e ∙ sym f in
    (told_unique r s (left_said one), left_lent one 0, left_lent one 1)
