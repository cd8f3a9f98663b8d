-- Theorems (b) and (c): equal layers stay equal; the rounds are found, and at most size − kinds; the classes are those of `Same`, named by their least states.
use mathlib.Core.Path.{◌≡◌, sym, ap, ◌∙◌}
use mathlib.Core.Logic.{◌↔◌, ◌≢◌}
use mathlib.Core.Bool.{true, false, true≢false, not-eq-not}
use mathlib.Core.List.{List}
use Prim.Native.Nat.{ℕ, zero, suc, ◌+◌, ◌-◌, ◌≤◌, ◌<◌}
use native.Mathlib.Nat.{add-zero, add-suc}
use native.Mathlib.Omega.{arith}
use native.Mathlib.Decide.{dec_lt}
use borrow.Author.Tests.{eq-eqb, ne_eqb, eqb-true, eqb-false}
use lib.Dec.{eqb}
use lib.ListN.{length}
use lib.Seq.{ext_get_or}
use Rattle.counting.specs.Lists.{at, tab}
use Rattle.counting.specs.Least.{name}
use Rattle.counting.specs.Counts.{agree}
use Rattle.counting.proofs.Leasts.{IsLeast, least_is}
use Rattle.counting.proofs.Tallies.{agree_iff, all_false, count_most, count_more, count_some, count_one}
use Rattle.counting.proofs.Climbs.{climb}
use Rattle.automaton.specs.Machine.{Machine, Lawful}
use Rattle.automaton.specs.Words.{Same}
use Rattle.automaton.specs.Layers.{alike_next, layer, rounds, classes, class_count, kinds}
use Rattle.automaton.proofs.Alikes.{layer-length, layer_le, layer-name, layer-least, layer_suc, layer_words}

module _ (M : Machine) where
  -- equal layers i and i + 1 stay equal for ever
  pub layers_stay : (i : ℕ) → layer M i ≡ layer M (suc i) → (j : ℕ) → layer M (i + j) ≡ layer M i
  unfolding layer
  layers_stay i e zero = rw add-zero
  layers_stay i e (suc j) = rw add-suc (ap (λ (xs : List ℕ). tab M.size (name (alike_next M xs))) (layers_stay i e j) ∙ sym e)

  same_layer : (i : ℕ) → (agree M.size (layer M i) (layer M (suc i)) ≡ true) ↔ (layer M i ≡ layer M (suc i))
  same_layer i = agree_iff M.size (layer M i) (layer M (suc i)) (layer-length M i) (layer-length M (suc i))

  -- a state and its name in the next layer are alike in this one
  pub name_stays : (i q : ℕ) → q < M.size → at (layer M i) (at (layer M (suc i)) q) ≡ at (layer M i) q
  name_stays i q l = ((layer_suc M i (at (layer M (suc i)) q) q (omega (arith, layer_le M (suc i) q l)) l).0 (layer-name M (suc i) q l)).0

  -- unequal layers: the next has more classes
  pub layers-grow : (i : ℕ) → layer M i ≢ layer M (suc i) → class_count M.size (layer M i) < class_count M.size (layer M (suc i))
  unfolding class_count agree
  layers-grow i d =
      let (x, l, u) = all_false M.size _ ((not-eq-not {b = false}).0 (λ e. d ((same_layer i).0 e))) in
      let y : ℕ = at (layer M (suc i)) x in
      let m : y ≤ x = layer_le M (suc i) x l in
      count_more M.size _ _ keeps y (omega arith)
      (ne_eqb (at (layer M i) y) y (λ h. eqb-false _ _ u (sym (name_stays i x l) ∙ h)))
      (eq-eqb (at (layer M (suc i)) y) y (layer-name M (suc i) x l))
    where
      keeps : (q : ℕ) → q < M.size → eqb (at (layer M i) q) q ≡ true → eqb (at (layer M (suc i)) q) q ≡ true
      keeps q l h =
          let n : ℕ = at (layer M (suc i)) q in
          let m : n ≤ q = layer_le M (suc i) q l in
          eq-eqb n q (omega (arith, eqb-true (at (layer M i) q) q h, layer-least M i n q (omega arith) l (name_stays i q l)))

  rounds_is : IsLeast M.size (λ i. agree M.size (layer M i) (layer M (suc i))) (rounds M)
  unfolding rounds
  rounds_is = least_is M.size _

  -- before the rounds, layers differ
  pub rounds-least : (i : ℕ) → i < rounds M → layer M i ≢ layer M (suc i)
  rounds-least i l e = true≢false (sym ((same_layer i).1 e) ∙ rounds_is.before i l)

  -- rounds ≤ size − the kinds present
  pub rounds-kinds : rounds M + kinds M ≤ M.size
  unfolding kinds class_count
  rounds-kinds =
      omega (arith, climb (λ i. class_count M.size (layer M i)) (rounds M) (λ i l. layers-grow i (rounds-least i l)), count_most M.size (λ q. eqb (at (layer M (rounds M)) q) q))

  module _ (lawful : Lawful M) where
    zero_name : at (layer M 0) 0 ≡ 0
    zero_name = omega (arith, layer_le M 0 0 lawful.some_state)

    pub kinds_some : 0 < kinds M
    unfolding kinds class_count
    kinds_some = count_some M.size _ 0 lawful.some_state (eq-eqb _ _ zero_name)

    -- at the rounds, layers are equal
    pub rounds_settled : layer M (rounds M) ≡ layer M (suc (rounds M))
    rounds_settled = (same_layer (rounds M)).0 (rounds_is.holds (omega (arith, rounds-kinds, kinds_some)))

    one_kind : kinds M ≤ 1 → (q : ℕ) → q < M.size → at (layer M 0) q ≡ 0
    unfolding kinds class_count
    one_kind h q l =
        count_one M.size (λ p. eqb (at (layer M 0) p) p) h (at (layer M 0) q) 0 (omega (arith, layer_le M 0 q l)) lawful.some_state
        (eq-eqb _ _ (layer-name M 0 q l)) (eq-eqb _ _ zero_name)

    -- document 000, section 3.2: at most n − 2 rounds, and 0 where n is 1
    pub rounds_most : rounds M ≤ M.size - 2
    rounds_most = by (dec_lt 1 (kinds M)) (dec_lt 0 (rounds M))
      where
        same : kinds M ≤ 1 → (q : ℕ) → q < M.size → at (layer M 0) q ≡ at (layer M 1) q
        same h q l =
            let one = one_kind h in
            let z = lawful.some_state in
            omega (
              arith,
              one q l,
              layer-least M 1 0 q z l
                  ((layer_suc M 0 0 q z l).1 (one 0 z ∙ sym (one q l), λ a k. one _ (lawful.next_in 0 a z k) ∙ sym (one _ (lawful.next_in q a l k)))),
            )

        by : Dec (1 < kinds M) → Dec (0 < rounds M) → rounds M ≤ M.size - 2
        by (yes k) d = omega (arith, rounds-kinds)
        by (no k) (no u) = omega arith
        by (no k) (yes u) =
            absurd (rounds-least 0 u (ext_get_or 0 _ _ (layer-length M 0 ∙ sym (layer-length M 1)) (λ q l. same (omega arith) q (omega (arith, layer-length M 0)))))

    -- (b)
    pub classes_same : (p q : ℕ) → p < M.size → q < M.size → (at (classes M) p ≡ at (classes M) q) ↔ Same M p q
    unfolding classes
    classes_same p q k l = (
      (λ e. record { word = λ w u. ((layer_words M lawful (rounds M + length w) p q k l).0 (rw (layers_stay (rounds M) rounds_settled (length w)) e)).word w u (omega arith) }),
      (λ s. (layer_words M lawful (rounds M) p q k l).1 (record { word = λ w u h. s.word w u })),
    )

    pub classes-in : (q : ℕ) → q < M.size → at (classes M) q < M.size
    unfolding classes
    classes-in q l = omega (arith, layer_le M (rounds M) q l)

    -- a class is named by its least member
    pub classes_member : (q : ℕ) → q < M.size → Same M (at (classes M) q) q
    unfolding classes
    classes_member q l = (classes_same (at (classes M) q) q (classes-in q l) l).0 (layer-name M (rounds M) q l)

    pub classes-least : (p q : ℕ) → p < M.size → q < M.size → Same M p q → at (classes M) q ≤ p
    unfolding classes
    classes-least p q k l s = layer-least M (rounds M) p q k l ((classes_same p q k l).1 s)

    -- state 0 names a class
    pub some_class : 0 < class_count M.size (classes M)
    unfolding classes class_count
    some_class = count_some M.size _ 0 lawful.some_state (eq-eqb (at (layer M (rounds M)) 0) 0 (omega (arith, layer_le M (rounds M) 0 lawful.some_state)))
