-- Each run has one answer: the definition that takes it to the paper's number and values is one to one.
use mathlib.Core.Path.{◌≡◌, sym, ◌∙◌}
use mathlib.Core.List.{List}
use Prim.Native.Nat.{ℕ}
use Rattle.std.specs.Prelude.{Result}
use Rattle.table.specs.declared.answer.Refusal.{Refusal}
use Rattle.table.proofs.Uniqueness.{said_unique}
use Rattle.running.specs.Running.{told, ran_word, ran_line}

pub told_unique : (r s : Result ℕ Refusal) → told r ≡ told s → r ≡ s
told_unique = said_unique _ (λ x y e. cc)

pub run_word_unique : (file word : List ℕ) (r s : Result ℕ Refusal) → told r ≡ ran_word file word → told s ≡ ran_word file word → r ≡ s
run_word_unique file word r s e f = told_unique r s (e ∙ sym f)

pub run_line_unique : (file line : List ℕ) (r s : Result ℕ Refusal) → told r ≡ ran_line file line → told s ≡ ran_line file line → r ≡ s
run_line_unique file line r s e f = told_unique r s (e ∙ sym f)
