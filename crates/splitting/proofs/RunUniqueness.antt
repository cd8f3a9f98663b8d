-- The run of takes has one answer and leaves one memory.
use mathlib.Core.Path.{◌≡◌, sym, ◌∙◌}
use mathlib.Core.List.{List, [], ◌∷◌}
use Prim.Native.Nat.{ℕ}
use Rattle.table.specs.Leaving.{left}
use Rattle.table.proofs.Leavings.{left_said, left_lent}
use Rattle.std.specs.Prelude.{Result}
use Rattle.table.proofs.Uniqueness.{said_unique}
use Rattle.table.specs.declared.answer.Refusal.{Refusal}
use Rattle.splitting.specs.declared.runs.Tally.{Tally}
use Rattle.splitting.specs.RunCall.{told_run, run_leaves}

pub told-run_unique : (r s : Result Tally Refusal) → told_run r ≡ told_run s → r ≡ s
told-run_unique = said_unique _ one
  where
    one : (x y : Tally) → (x.takes ∷ x.entries ∷ []) ≡ (y.takes ∷ y.entries ∷ []) → x ≡ y
    one x y e =
        let f : x.takes ≡ y.takes = cc in
        let g : x.entries ≡ y.entries = cc in
        λ i. record { takes = f i; entries = g i }

pub run_unique : (file : List ℕ) (budget : ℕ) (class pending work : List ℕ) (r s : Result Tally Refusal) (c p w c' p' w' : List ℕ)
    → left (told_run r) (c ∷ p ∷ w ∷ []) ≡ run_leaves file budget class pending work
    → left (told_run s) (c' ∷ p' ∷ w' ∷ []) ≡ run_leaves file budget class pending work
    → (r ≡ s) × (c ≡ c') × (p ≡ p') × (w ≡ w')
run_unique file budget class pending work r s c p w c' p' w' e f =
    let one : left (told_run r) (c ∷ p ∷ w ∷ []) ≡ left (told_run s) (c' ∷ p' ∷ w' ∷ []) = e ∙ sym f in
    (told-run_unique r s (left_said one), left_lent one 0, left_lent one 1, left_lent one 2)
