-- Theorem (a): two states have one name in layer i exactly when no word of at most i signs parts them. A layer is named by least members.
use mathlib.Core.Path.{◌≡◌, refl, sym, ap₂, ◌∙◌}
use mathlib.Core.Logic.Iff
use mathlib.Core.Logic.{◌↔◌}
use mathlib.Core.Bool.{Bool, true, ◌&&◌}
use mathlib.Core.List.{List, [], ◌∷◌}
use Prim.Native.Nat.{ℕ, zero, suc, ◌≤◌, ◌<◌}
use native.Mathlib.Omega.{arith}
use borrow.Author.Tests.{eq-eqb, eqb-true}
use lib.Dec.{eqb}
use lib.ListN.{length}
use Rattle.counting.specs.Lists.{at}
use Rattle.counting.specs.Least.{name}
use Rattle.counting.proofs.Tabs.{tab-length, tab-at}
use Rattle.counting.proofs.Tallies.{and-true, all_iff}
use Rattle.counting.proofs.Names.{Alike, name_le, name_iff, name-name}
use Rattle.automaton.specs.Machine.{Machine, Lawful}
use Rattle.automaton.specs.Words.{steps, SameUpTo}
use Rattle.automaton.specs.Layers.{alike_kind, alike_next, layer}

module _ (M : Machine) where
  kind_iff : (p q : ℕ) → (alike_kind M p q ≡ true) ↔ (M.kind p ≡ M.kind q)
  unfolding alike_kind
  kind_iff p q = (eqb-true _ _, eq-eqb _ _)

  pub alike-kind : Alike (alike_kind M)
  alike-kind =
      record {
        self = λ x. (kind_iff x x).1 refl;
        back = λ x y h. (kind_iff y x).1 (sym ((kind_iff x y).0 h));
        over = λ x y z h k. (kind_iff x z).1 ((kind_iff x y).0 h ∙ (kind_iff y z).0 k);
      }

  next_iff : (xs : List ℕ) (p q : ℕ) → (alike_next M xs p q ≡ true) ↔ ((at xs p ≡ at xs q) × ((a : ℕ) → a < M.signs → at xs (M.next p a) ≡ at xs (M.next q a)))
  unfolding alike_next
  next_iff xs p q =
      let each = all_iff M.signs (λ a. eqb (at xs (M.next p a)) (at xs (M.next q a))) in
      let both = and-true (eqb (at xs p) (at xs q)) _ in (
        (λ e. (eqb-true _ _ (both e).0, λ a h. eqb-true _ _ (each.0 (both e).1 a h))),
        (λ e. ap₂ ◌&&◌ (eq-eqb _ _ e.0) (each.1 (λ a h. eq-eqb _ _ (e.1 a h)))),
      )

  pub alike_next_lem : (xs : List ℕ) → Alike (alike_next M xs)
  alike_next_lem xs =
      let to = next_iff xs in
      record {
        self = λ x. (to x x).1 (refl, λ a l. refl);
        back = λ x y h. (to y x).1 (sym ((to x y).0 h).0, λ a l. sym (((to x y).0 h).1 a l));
        over = λ x y z h k. (to x z).1 (((to x y).0 h).0 ∙ ((to y z).0 k).0, λ a l. ((to x y).0 h).1 a l ∙ ((to y z).0 k).1 a l);
      }

  -- the test whose names layer i lists
  test : ℕ → ℕ → ℕ → Bool
  test zero = alike_kind M
  test (suc i) = alike_next M (layer M i)

  test_alike : (i : ℕ) → Alike (test i)
  unfolding test
  test_alike zero = alike-kind
  test_alike (suc i) = alike_next_lem (layer M i)

  pub layer-length : (i : ℕ) → length (layer M i) ≡ M.size
  unfolding layer
  layer-length zero = tab-length _ _
  layer-length (suc i) = tab-length _ _

  layer-at : (i q : ℕ) → q < M.size → at (layer M i) q ≡ name (test i) q
  unfolding layer test
  layer-at zero q l = tab-at _ _ 0 q l
  layer-at (suc i) q l = tab-at _ _ 0 q l

  layer_iff : (i p q : ℕ) → p < M.size → q < M.size → (at (layer M i) p ≡ at (layer M i) q) ↔ (test i p q ≡ true)
  layer_iff i p q k l = rw (layer-at i p k, layer-at i q l) (name_iff (test i) (test_alike i) p q)

  pub layer_le : (i q : ℕ) → q < M.size → at (layer M i) q ≤ q
  layer_le i q l = rw (layer-at i q l) (name_le (test i) (test_alike i) q)

  -- a name's name is itself
  pub layer-name : (i q : ℕ) → q < M.size → at (layer M i) (at (layer M i) q) ≡ at (layer M i) q
  layer-name i q l =
      let h : at (layer M i) q ≤ q = layer_le i q l in
      rw (layer-at i (at (layer M i) q) (omega arith), layer-at i q l) (name-name (test i) (test_alike i) q)

  -- the name is the least state with that name
  pub layer-least : (i p q : ℕ) → p < M.size → q < M.size → at (layer M i) p ≡ at (layer M i) q → at (layer M i) q ≤ p
  layer-least i p q k l e = rw (← e) (layer_le i p k)

  pub layer_zero : (p q : ℕ) → p < M.size → q < M.size → (at (layer M 0) p ≡ at (layer M 0) q) ↔ (M.kind p ≡ M.kind q)
  unfolding test
  layer_zero p q k l = Iff.trans (layer_iff zero p q k l) (kind_iff p q)

  pub layer_suc : (i p q : ℕ) → p < M.size → q < M.size
      → (at (layer M (suc i)) p ≡ at (layer M (suc i)) q)
      ↔ ((at (layer M i) p ≡ at (layer M i) q) × ((a : ℕ) → a < M.signs → at (layer M i) (M.next p a) ≡ at (layer M i) (M.next q a)))
  unfolding test
  layer_suc i p q k l = Iff.trans (layer_iff (suc i) p q k l) (next_iff (layer M i) p q)

  module _ (lawful : Lawful M) where
    -- (a)
    pub layer_words : (i p q : ℕ) → p < M.size → q < M.size → (at (layer M i) p ≡ at (layer M i) q) ↔ SameUpTo M i p q
    unfolding steps
    layer_words zero p q k l =
        let r = layer_zero p q k l in
        ((λ e. record { word = elim [ [] ↦ λ u h. r.0 e | a ∷ w ↦ λ u h. absurd (omega arith) ] }), (λ s. r.1 (s.word [] tt (omega arith))))
    layer_words (suc i) p q k l =
        let r = layer_suc i p q k l in
        let here = layer_words i p q k l in (
          (λ e. record {
            word = elim [
              | [] ↦ λ u h. (here.0 (r.0 e).0).word [] u (omega arith)
              | a ∷ w ↦ λ u h. ((layer_words i _ _ (lawful.next_in p a k u.0) (lawful.next_in q a l u.0)).0 ((r.0 e).1 a u.0)).word w u.1 (omega arith)
            ];
          }),
          (λ s. r.1 (
            here.1 (record { word = λ w u h. s.word w u (omega arith) }),
            λ a h. (layer_words i _ _ (lawful.next_in p a k h) (lawful.next_in q a l h)).1 (record { word = λ w u m. s.word (a ∷ w) (h, u) (omega arith) }),
          )),
        )
