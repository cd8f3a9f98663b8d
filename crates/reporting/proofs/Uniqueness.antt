-- The report has one answer and leaves one memory.
use mathlib.Core.Path.{◌≡◌, sym, ◌∙◌}
use mathlib.Core.List.{List, [], ◌∷◌}
use Prim.Native.Nat.{ℕ}
use Rattle.std.specs.Prelude.{Result}
use Rattle.table.specs.Leaving.{left}
use Rattle.table.proofs.Leavings.{left_said, left_lent}
use Rattle.table.proofs.Uniqueness.{said_unique}
use Rattle.table.specs.declared.answer.Refusal.{Refusal}
use Rattle.reporting.specs.declared.Numbers.{Numbers}
use Rattle.reporting.specs.Reports.{told, report_leaves}

pub told_unique : (r s : Result Numbers Refusal) → told r ≡ told s → r ≡ s
told_unique = said_unique _ one
  where
    one : (x y : Numbers)
        → (x.sizes.states ∷ x.sizes.signs ∷ x.sizes.start ∷ x.classes ∷ x.rounds ∷ x.takes ∷ x.entries ∷ x.rows ∷ [])
        ≡ (y.sizes.states ∷ y.sizes.signs ∷ y.sizes.start ∷ y.classes ∷ y.rounds ∷ y.takes ∷ y.entries ∷ y.rows ∷ [])
        → x ≡ y
    one x y e =
        let n : x.sizes.states ≡ y.sizes.states = cc in
        let k : x.sizes.signs ≡ y.sizes.signs = cc in
        let b : x.sizes.start ≡ y.sizes.start = cc in
        let m : x.classes ≡ y.classes = cc in
        let r : x.rounds ≡ y.rounds = cc in
        let t : x.takes ≡ y.takes = cc in
        let l : x.entries ≡ y.entries = cc in
        let w : x.rows ≡ y.rows = cc in
        λ i. record { sizes = record { states = n i; signs = k i; start = b i }; classes = m i; rounds = r i; takes = t i; entries = l i; rows = w i }

pub report_unique : (file work names pending out : List ℕ) (r s : Result Numbers Refusal) (w c p o w' c' p' o' : List ℕ)
    → left (told r) (w ∷ c ∷ p ∷ o ∷ []) ≡ report_leaves file work names pending out
    → left (told s) (w' ∷ c' ∷ p' ∷ o' ∷ []) ≡ report_leaves file work names pending out
    → (r ≡ s) × (w ≡ w') × (c ≡ c') × (p ≡ p') × (o ≡ o')
report_unique file work names pending out r s w c p o w' c' p' o' e f =
    let one : left (told r) (w ∷ c ∷ p ∷ o ∷ []) ≡ left (told s) (w' ∷ c' ∷ p' ∷ o' ∷ []) = e ∙ sym f in
    (told_unique r s (left_said one), left_lent one 0, left_lent one 1, left_lent one 2, left_lent one 3)
