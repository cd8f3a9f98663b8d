-- The fresh start has one answer and leaves one memory.
use mathlib.Core.Path.{◌≡◌, refl, sym, ◌∙◌}
use mathlib.Core.List.{List, [], ◌∷◌}
use Prim.Native.Nat.{ℕ}
use Rattle.table.specs.Leaving.{left}
use Rattle.table.proofs.Leavings.{left_said, left_lent}
use Rattle.std.specs.Prelude.{Result}
use Rattle.table.proofs.Uniqueness.{said_unique}
use Rattle.table.specs.declared.answer.Refusal.{Refusal}
use Rattle.splitting.specs.StartCall.{told_start, start_leaves}

pub told_start_unique : (r s : Result (Unit {0}) Refusal) → told_start r ≡ told_start s → r ≡ s
told_start_unique = said_unique _ (λ x y e. refl)

pub start_unique : (file class pending : List ℕ) (r s : Result (Unit {0}) Refusal) (v w u t : List ℕ)
    → left (told_start r) (v ∷ u ∷ []) ≡ start_leaves file class pending
    → left (told_start s) (w ∷ t ∷ []) ≡ start_leaves file class pending
    → (r ≡ s) × (v ≡ w) × (u ≡ t)
start_unique file class pending r s v w u t e f =
    let one : left (told_start r) (v ∷ u ∷ []) ≡ left (told_start s) (w ∷ t ∷ []) = e ∙ sym f in
    (told_start_unique r s (left_said one), left_lent one 0, left_lent one 1)
