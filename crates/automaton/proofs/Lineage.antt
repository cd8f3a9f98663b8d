-- A state's name in any layer, from its name in a later one: the same since the name's birth, and the parent just before.
use mathlib.Core.Path.{◌≡◌}
use Prim.Native.Nat.{ℕ, zero, suc, ◌≤◌, ◌<◌}
use native.Mathlib.Omega.{arith}
use native.Mathlib.Decide.{dec_lt}
use borrow.Author.Tests.{eqb-true, eqb-false}
use lib.Dec.{eqb}
use Rattle.counting.specs.Lists.{at}
use Rattle.counting.proofs.Leasts.{IsLeast, least_is}
use Rattle.automaton.specs.Machine.{Machine}
use Rattle.automaton.specs.Layers.{layer, rounds}
use Rattle.automaton.specs.Births.{birth, parent}
use Rattle.automaton.proofs.Alikes.{layer_le, layer-name, layer_suc}

module _ (M : Machine) where
  -- names that agree in a layer agree in every layer before
  pub layers_coarser : (i j p q : ℕ) → p < M.size → q < M.size → i ≤ j → at (layer M j) p ≡ at (layer M j) q → at (layer M i) p ≡ at (layer M i) q
  layers_coarser i zero p q k l m e = let z : i ≡ 0 = omega arith in rw z e
  layers_coarser i (suc j) p q k l m e =
      elim (dec_lt j i) [
        | yes h ↦ let z : i ≡ suc j = omega arith in rw z e
        | no h ↦ layers_coarser i j p q k l (omega arith) ((layer_suc M j p q k l).0 e).0
      ]

  -- a state and its name in a later layer are alike
  alike_name : (i j q : ℕ) → q < M.size → i ≤ j → at (layer M i) (at (layer M j) q) ≡ at (layer M i) q
  alike_name i j q l m = layers_coarser i j (at (layer M j) q) q (omega (arith, layer_le M j q l)) l m (layer-name M j q l)

  -- a name of a layer stays one
  pub name_stays : (i j c : ℕ) → c < M.size → i ≤ j → at (layer M i) c ≡ c → at (layer M j) c ≡ c
  name_stays i j c l m e =
      let h : at (layer M j) c ≤ c = layer_le M j c l in
      omega (arith, alike_name i j c l m, layer_le M i (at (layer M j) c) (omega arith))

  birth_is : (c : ℕ) → IsLeast (suc (rounds M)) (λ i. eqb (at (layer M i) c) c) (birth M c)
  unfolding birth
  birth_is c = least_is _ _

  pub birth_most : (i c : ℕ) → at (layer M i) c ≡ c → birth M c ≤ i
  birth_most i c e = elim (dec_lt i (birth M c)) [ yes h ↦ absurd (eqb-false _ _ ((birth_is c).before i h) e) | no h ↦ omega arith ]

  -- from its birth on a name is one
  pub birth_named : (i c : ℕ) → c < M.size → i ≤ rounds M → birth M c ≤ i → at (layer M i) c ≡ c
  birth_named i c k l m = name_stays (birth M c) i c k m (eqb-true _ _ ((birth_is c).holds (omega arith)))

  pub since_birth : (i j x c : ℕ) → x < M.size → i ≤ rounds M → at (layer M i) x ≡ c → birth M c ≤ j → j ≤ i → at (layer M j) x ≡ c
  since_birth i j x c l m e b k = cc (alike_name j i x l k, birth_named j c (omega (arith, layer_le M i x l)) (omega arith) b)

  pub before-birth : (i b x c : ℕ) → x < M.size → at (layer M i) x ≡ c → birth M c ≡ suc b → b < i → at (layer M b) x ≡ parent M c
  unfolding parent
  before-birth i b x c l e f k = rw f (cc (alike_name b i x l (omega arith)))

  -- a parent is a smaller state
  pub parent_less : (b c : ℕ) → c < M.size → birth M c ≡ suc b → parent M c < c
  unfolding parent
  parent_less b c l e = rw e (omega (arith, layer_le M b c l, eqb-false (at (layer M b) c) c ((birth_is c).before b (omega arith))))

  -- a name that was none in the layer before is born here, and its name there is its parent
  pub newborn : (i c : ℕ) → c < M.size → i < rounds M → at (layer M (suc i)) c ≡ c → at (layer M i) c < c → (birth M c ≡ suc i) × (parent M c ≡ at (layer M i) c)
  unfolding parent
  newborn i c l m e f =
      let h : birth M c ≤ suc i = birth_most (suc i) c e in
      let z : birth M c ≡ suc i = elim (dec_lt i (birth M c)) [ yes k ↦ omega arith | no k ↦ omega (arith, birth_named i c l (omega arith) (omega arith)) ] in
      (z, rw z)
