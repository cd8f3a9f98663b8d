-- The two invariants of right classes, from what a step guarantees alone: states that are the same are never parted, and of two classes that part a class's
-- next states at least one waits. When nothing waits the classes are those of `Same`.
use mathlib.Core.Path.{◌≡◌, sym, ap, ◌∙◌}
use mathlib.Core.Logic.{◌↔◌, ◌≢◌, ◌⊎◌, ⊎_elim, ⊎_map}
use mathlib.Core.Bool.{Bool, true, false, true≢false}
use mathlib.Core.List.{List, [], ◌∷◌}
use Prim.Native.Nat.{ℕ, ◌<◌}
use native.Mathlib.Decide.{ℕ_discrete}
use borrow.Author.Tests.{eq-eqb, eqb-true}
use lib.Dec.{eqb}
use Rattle.automaton.specs.Machine.{Machine, Lawful}
use Rattle.automaton.specs.Words.{Word, steps, ends, Same}
use Rattle.automaton.proofs.Walks.{same_next}
use Rattle.refining.specs.Guarantee.{Guarantees}

pub record Separates (M : Machine) (class : ℕ → ℕ) (waits : ℕ → ℕ → Bool) : Type 0 where
  pub kinds : (x y : ℕ) → x < M.size → y < M.size → class x ≡ class y → M.kind x ≡ M.kind y
  pub together : (x y : ℕ) → x < M.size → y < M.size → Same M x y → class x ≡ class y
  pub watched : (x y b : ℕ) → x < M.size → y < M.size → b < M.signs → class x ≡ class y → class (M.next x b) ≢ class (M.next y b)
      → (waits (class (M.next x b)) b ≡ true) ⊎ (waits (class (M.next y b)) b ≡ true)

module _ (M : Machine) (lawful : Lawful M) where
  pub step_separates : {class class' : ℕ → ℕ} {waits waits' : ℕ → ℕ → Bool} (q a : ℕ) → Guarantees M class waits q a class' waits' → Separates M class waits → Separates M class' waits'
  step_separates {class} {class'} {waits} {waits'} q a g s = record {
    kinds = λ x y k l e. s.kinds x y k l (g.refines x y k l e);
    together = λ x y k l t.
        g.joined x y k l (s.together x y k l t)
        (ap (λ (c : ℕ). eqb c q) (s.together _ _ (lawful.next_in x a k g.sign) (lawful.next_in y a l g.sign) (same_next M a g.sign t)));
    watched = λ x y b k l m e u.
        elim (ℕ_discrete (class (M.next x b)) (class (M.next y b))) [
          | yes f ↦ g.halved _ _ b (lawful.next_in x b k m) (lawful.next_in y b l m) m f u
          | no v ↦ ⊎_map (waits_on x y b k l m e v) (waits_on y x b l k m (sym e) (λ f. v (sym f))) (s.watched x y b k l m (g.refines x y k l e) v)
        ];
  }
    where
      -- the pair taken would have parted x from y
      waits_on : (x y b : ℕ) → x < M.size → y < M.size → b < M.signs → class' x ≡ class' y → class (M.next x b) ≢ class (M.next y b)
          → waits (class (M.next x b)) b ≡ true → waits' (class' (M.next x b)) b ≡ true
      waits_on x y b k l m e v h =
          g.stays _ b (lawful.next_in x b k m) m h (λ (c, f).
          let p : eqb (class (M.next x b)) q ≡ eqb (class (M.next y b)) q = rw f (g.parted x y k l e) in
          v (c ∙ sym (eqb-true _ _ (sym p ∙ eq-eqb _ _ c))))

  pub settled_same : {class : ℕ → ℕ} {waits : ℕ → ℕ → Bool} → Separates M class waits
      → ((x b : ℕ) → x < M.size → b < M.signs → waits (class x) b ≡ false)
      → (x y : ℕ) → x < M.size → y < M.size → (class x ≡ class y) ↔ Same M x y
  unfolding steps
  settled_same {class} {waits} s n x y k l = ((λ e. record { word = λ w h. ends_alike x y w k l h e }), s.together x y k l)
    where
      quiet : (x b : ℕ) → x < M.size → b < M.signs → waits (class x) b ≡ true → ⊥
      quiet x b k m t = true≢false (sym t ∙ n x b k m)

      ends_alike : (x y : ℕ) (w : List ℕ) → x < M.size → y < M.size → Word M.signs w → class x ≡ class y → ends M x w ≡ ends M y w
      ends_alike x y [] k l h e = s.kinds x y k l e
      ends_alike x y (b ∷ w) k l h e =
          let i : M.next x b < M.size = lawful.next_in x b k h.0 in
          let j : M.next y b < M.size = lawful.next_in y b l h.0 in
          ends_alike (M.next x b) (M.next y b) w i j h.1
          (elim (ℕ_discrete (class (M.next x b)) (class (M.next y b))) [
            | yes f ↦ f
            | no u ↦ absurd (⊎_elim (quiet _ b i h.0) (quiet _ b j h.0) (s.watched x y b k l h.0 e u))
          ])
