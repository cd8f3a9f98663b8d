-- What the loop of `layering::layers::write_names` keeps: the first q names are counted.
use mathlib.Core.Path.{◌≡◌}
use Rattle.automaton.specs.Layers.{class_count}
use Rattle.layering.proofs.layers.write_names.Given as goal

abbrev pub invariant-loop-q : goal.invariant-loop-q
invariant-loop-q l = l.count ≡ class_count l.q l.names
