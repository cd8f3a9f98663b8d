-- Kinds count by their equality alone: with other kinds and the same layer 0, all layers, rounds, classes, births and parents are the same.
use mathlib.Core.Path.{◌≡◌, refl, sym, ap, ◌∙◌}
use mathlib.Core.List.{List}
use Prim.Native.Nat.{ℕ, zero, suc, pred, ◌<◌}
use native.Mathlib.Omega.{arith}
use lib.Dec.{eqb}
use lib.Seq.{ext_get_or}
use Rattle.counting.specs.Lists.{at, tab}
use Rattle.counting.specs.Least.{least, name}
use Rattle.counting.specs.Counts.{agree}
use Rattle.counting.proofs.Leasts.{least_cong}
use Rattle.automaton.specs.Machine.{Machine}
use Rattle.automaton.specs.Layers.{alike_next, layer, rounds, classes}
use Rattle.automaton.specs.Births.{birth, parent}
use Rattle.automaton.proofs.Alikes.{layer-length, layer_le, layer-name, layer_zero}

module _ (M : Machine) (kinds : ℕ → ℕ) where
  -- the machine with these kinds
  abbrev pub rekinded : Machine
  rekinded = record { size = M.size; signs = M.signs; start = M.start; next = M.next; kind = kinds }

  -- with a state's first name for its kind, layer 0 is the same
  pub named_kinds : ((x : ℕ) → x < M.size → kinds x ≡ at (layer M 0) x) → layer rekinded 0 ≡ layer M 0
  named_kinds h =
      ext_get_or 0 (layer rekinded 0) (layer M 0) (layer-length rekinded 0 ∙ sym (layer-length M 0))
      (λ x l. same x (omega (arith, layer-length rekinded 0)))
    where
      same : (x : ℕ) → x < M.size → at (layer rekinded 0) x ≡ at (layer M 0) x
      same x l =
          let a : ℕ = at (layer rekinded 0) x in
          let b : ℕ = at (layer M 0) x in
          let k : a < M.size = omega (arith, layer_le rekinded 0 x l) in
          let m : b < M.size = omega (arith, layer_le M 0 x l) in
          let u : kinds a ≡ kinds x = (layer_zero rekinded a x k l).0 (layer-name rekinded 0 x l) in
          let v : at (layer rekinded 0) b ≡ a = (layer_zero rekinded b x m l).1 (h b m ∙ layer-name M 0 x l ∙ sym (h x l)) in
          let w : at (layer M 0) a ≡ b = sym (h a k) ∙ u ∙ h x l in
          omega (arith, v, w, layer_le rekinded 0 b m, layer_le M 0 a k)

  module _ (e : layer rekinded 0 ≡ layer M 0) where
    pub layers_same : (i : ℕ) → layer rekinded i ≡ layer M i
    unfolding layer alike_next
    layers_same zero = e
    layers_same (suc i) = ap (λ (xs : List ℕ). tab M.size (name (alike_next M xs))) (layers_same i)

    pub rounds_same : rounds rekinded ≡ rounds M
    unfolding rounds
    rounds_same =
        least_cong M.size (λ i. agree M.size (layer rekinded i) (layer rekinded (suc i))) (λ i. agree M.size (layer M i) (layer M (suc i)))
        (λ i l. rw (layers_same i, layers_same (suc i)) refl)

    pub classes_same : classes rekinded ≡ classes M
    unfolding classes
    classes_same = layers_same (rounds rekinded) ∙ ap (layer M) rounds_same

    pub births_same : (c : ℕ) → birth rekinded c ≡ birth M c
    unfolding birth
    births_same c =
        least_cong (suc (rounds rekinded)) (λ i. eqb (at (layer rekinded i) c) c) (λ i. eqb (at (layer M i) c) c) (λ i l. rw (layers_same i) refl)
        ∙ ap (λ (r : ℕ). least (suc r) (λ i. eqb (at (layer M i) c) c)) rounds_same

    pub parents_same : (c : ℕ) → parent rekinded c ≡ parent M c
    unfolding parent
    parents_same c =
        ap (λ (xs : List ℕ). at xs c) (layers_same (pred (birth rekinded c)))
        ∙ ap (λ (b : ℕ). at (layer M (pred b)) c) (births_same c)
