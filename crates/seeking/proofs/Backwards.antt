-- Laws of the words of listed nodes, read back through the nodes they come from.
use mathlib.Core.Path.{◌≡◌, refl, ap, ap₂, ◌∙◌}
use mathlib.Core.List.{List, [], ◌∷◌, ◌++◌}
use Prim.Native.Nat.{ℕ, zero, suc, ◌≤◌, ◌<◌}
use native.Mathlib.Decide.{ℕ_discrete}
use native.Mathlib.Omega.{arith}
use lib.ListN.{length, length-append}
use Rattle.automaton.specs.Words.{Word}
use Rattle.automaton.proofs.Walks.{word_append}
use Rattle.seeking.specs.Search.{word_in, word_of, Earlier}

module _ (from by : ℕ → ℕ) (len : ℕ) (earlier : Earlier from len) where
  -- more steps back than are needed change nothing
  word_enough : (f g i : ℕ) → i ≤ f → i ≤ g → i < len → word_in from by f i ≡ word_in from by g i
  unfolding word_in
  word_enough zero zero i h k l = refl
  word_enough zero (suc g) zero h k l = refl
  word_enough zero (suc g) (suc i) h k l = absurd (omega arith)
  word_enough (suc f) zero zero h k l = refl
  word_enough (suc f) zero (suc i) h k l = absurd (omega arith)
  word_enough (suc f) (suc g) zero h k l = refl
  word_enough (suc f) (suc g) (suc i) h k l =
      let e : from (suc i) ≤ i = earlier i l in
      ap (λ (w : List ℕ). w ++ by (suc i) ∷ []) (word_enough f g (from (suc i)) (omega arith) (omega arith) (omega arith))

  -- the word of a node: that of the node it comes from, and the sign
  pub word_step : (i : ℕ) → 0 < i → i < len → word_of from by i ≡ word_of from by (from i) ++ by i ∷ []
  unfolding word_in
  word_step zero h l = absurd (omega arith)
  word_step (suc i) h l =
      let e : from (suc i) ≤ i = earlier i l in
      ap (λ (w : List ℕ). w ++ by (suc i) ∷ []) (word_enough i (from (suc i)) (from (suc i)) e (omega arith) (omega arith))

  word_short_in : (f i : ℕ) → length (word_in from by f i) ≤ f
  unfolding word_in
  word_short_in zero i = omega arith
  word_short_in (suc f) zero = omega arith
  word_short_in (suc f) (suc i) = omega (arith, length-append (word_in from by f (from (suc i))) (by (suc i) ∷ []), word_short_in f (from (suc i)))

  -- it has no more signs than there are nodes before
  pub word_short : (i : ℕ) → length (word_of from by i) ≤ i
  word_short i = word_short_in i i

  word_signs_in : (k : ℕ) → ((i : ℕ) → suc i < len → by (suc i) < k) → (f i : ℕ) → i < len → Word k (word_in from by f i)
  unfolding word_in
  word_signs_in k h zero i l = tt
  word_signs_in k h (suc f) zero l = tt
  word_signs_in k h (suc f) (suc i) l =
      let e : from (suc i) ≤ i = earlier i l in
      word_append k (word_in from by f (from (suc i))) (by (suc i) ∷ []) (word_signs_in k h f (from (suc i)) (omega arith)) (h i l, tt)

  -- it is a word
  pub word_signs : (k : ℕ) → ((i : ℕ) → suc i < len → by (suc i) < k) → (i : ℕ) → i < len → Word k (word_of from by i)
  word_signs k h i l = word_signs_in k h i i l

  -- it looks at no node after its own
  word_same_in : (from' by' : ℕ → ℕ) → ((i : ℕ) → i < len → (from i ≡ from' i) × (by i ≡ by' i)) → (f i : ℕ) → i < len → word_in from by f i ≡ word_in from' by' f i
  unfolding word_in
  word_same_in from' by' h zero i l = refl
  word_same_in from' by' h (suc f) zero l = refl
  word_same_in from' by' h (suc f) (suc i) l =
      let e : from (suc i) ≤ i = earlier i l in
      ap₂ (λ (w : List ℕ) (b : ℕ). w ++ b ∷ [])
      (word_same_in from' by' h f (from (suc i)) (omega arith) ∙ ap (word_in from' by' f) (h (suc i) l).0)
      (h (suc i) l).1

  pub word_same : (from' by' : ℕ → ℕ) → ((i : ℕ) → i < len → (from i ≡ from' i) × (by i ≡ by' i)) → (i : ℕ) → i < len → word_of from by i ≡ word_of from' by' i
  word_same from' by' h i l = word_same_in from' by' h i i l

  -- one node more, which comes from a node of the list
  module _ (head sign : ℕ) (e : from len ≡ head) (f : by len ≡ sign) (listed : head < len) where
    pub earlier_more : Earlier from (suc len)
    earlier_more i l = elim (ℕ_discrete (suc i) len) [ yes h ↦ omega (arith, ap from h, e) | no h ↦ earlier i (omega arith) ]

-- and its word
pub word_more : (from by : ℕ → ℕ) (len head sign : ℕ) → Earlier from len → from len ≡ head → by len ≡ sign → head < len → word_of from by len ≡ word_of from by head ++ sign ∷ []
word_more from by len head sign earlier e f listed =
    word_step from by (suc len) (earlier_more from by len earlier head sign e f listed) len (omega arith) (omega arith)
    ∙ ap₂ (λ (i a : ℕ). word_of from by i ++ a ∷ []) e f
