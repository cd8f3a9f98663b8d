-- Telling two states apart has one answer and leaves one memory.
use mathlib.Core.Path.{◌≡◌, refl, sym, ap, ◌∙◌}
use mathlib.Core.List.{List, [], ◌∷◌}
use Prim.Native.Nat.{ℕ}
use Rattle.std.specs.Prelude.{Option, None, Some, Result}
use Rattle.table.specs.Leaving.{left}
use Rattle.table.proofs.Leavings.{left_said, left_lent}
use Rattle.table.specs.declared.answer.Refusal.{Refusal}
use Rattle.table.proofs.Uniqueness.{said_unique}
use Rattle.telling.specs.Calls.{word_length, told, tell_leaves}

pub told_unique : (r s : Result (Option ℕ) Refusal) → told r ≡ told s → r ≡ s
told_unique = said_unique word_length one
  where
    one : (x y : Option ℕ) → word_length x ≡ word_length y → x ≡ y
    one None None e = refl
    one None (Some y) e = absurd (cc)
    one (Some x) None e = absurd (cc)
    one (Some x) (Some y) e = ap Some (cc)

pub tell_unique : (file : List ℕ) (p q : ℕ) (work word : List ℕ) (r s : Result (Option ℕ) Refusal) (v w u t : List ℕ)
    → left (told r) (v ∷ u ∷ []) ≡ tell_leaves file p q work word
    → left (told s) (w ∷ t ∷ []) ≡ tell_leaves file p q work word
    → (r ≡ s) × (v ≡ w) × (u ≡ t)
tell_unique file p q work word r s v w u t e f =
    let one : left (told r) (v ∷ u ∷ []) ≡ left (told s) (w ∷ t ∷ []) = e ∙ sym f in
    (told_unique r s (left_said one), left_lent one 0, left_lent one 1)
