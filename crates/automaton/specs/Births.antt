-- The layer in which a class name is born, and the name that its state had before: all layers, kept in two numbers a name.
use Rattle.std.specs.Prelude.{ℕ, suc, pred, eqb}
use Rattle.counting.specs.Lists.{at}
use Rattle.counting.specs.Least.{least}
use Rattle.automaton.specs.Machine.{Machine}
use Rattle.automaton.specs.Layers.{layer, rounds}

-- the first layer in which the state is a class name; rounds + 1 where it never is
unfoldable pub birth : Machine → ℕ → ℕ
birth M c = least (suc (rounds M)) (λ i. eqb (at (layer M i) c) c)

-- the name that the state had in the layer before
unfoldable pub parent : Machine → ℕ → ℕ
parent M c = at (layer M (pred (birth M c))) c
