-- Theorem (d): the telling word parts the two states, is shortest, and first in sign order among the shortest; alike exactly when no word parts them.
use mathlib.Core.Path.{◌≡◌, refl, sym, ap, ap₂}
use mathlib.Core.Logic.{◌↔◌, ◌≢◌, inl, inr}
use mathlib.Core.Bool.{not}
use mathlib.Core.List.{List, [], ◌∷◌}
use Prim.Native.Nat.{ℕ, zero, suc, ◌≤◌, ◌<◌}
use native.Mathlib.Omega.{arith}
use native.Mathlib.Decide.{dec_lt}
use borrow.Author.Tests.{lt-ltb, le-ltb, eqb-true, eqb-false, not-true, not-false}
use lib.Dec.{eqb}
use lib.ListN.{length}
use Rattle.counting.specs.Lists.{at}
use Rattle.counting.specs.Least.{pick, least}
use Rattle.counting.proofs.Leasts.{least_is}
use Rattle.automaton.specs.Machine.{Machine, Lawful}
use Rattle.automaton.specs.Words.{Word, steps, ends, Same}
use Rattle.automaton.specs.Layers.{layer, rounds, classes}
use Rattle.automaton.specs.Telling.{depth, parting_sign, word_from, Telling, alike, apart, telling, NotLater, Tells}
use Rattle.automaton.proofs.Alikes.{layer_zero, layer_suc, layer_words}
use Rattle.automaton.proofs.Settling.{classes_same}

-- i is the first place below n where f and g differ, or is not below n
pub record FirstDiffers (n : ℕ) (f g : ℕ → ℕ) (i : ℕ) : Type 0 where
  pub before : (j : ℕ) → j < i → f j ≡ g j
  pub here : i < n → f i ≢ g i

first_differs : (n : ℕ) (f g : ℕ → ℕ) → FirstDiffers n f g (least n (λ i. not (eqb (f i) (g i))))
first_differs n f g =
    let r = least_is n (λ i. not (eqb (f i) (g i))) in
    record { before = λ j h. eqb-true _ _ (not-false _ (r.before j h)); here = λ h. eqb-false _ _ (not-true _ (r.holds h)) }

pub differs_below : (n i : ℕ) {f g : ℕ → ℕ} → FirstDiffers n f g i → ¬ ((j : ℕ) → j < n → f j ≡ g j) → i < n
differs_below n i r u = elim (dec_lt i n) [ yes l ↦ l | no l ↦ absurd (u (λ j m. r.before j (omega arith))) ]

module _ (M : Machine) where
  pub sign_differs : (xs : List ℕ) (p q : ℕ) → FirstDiffers M.signs (λ a. at xs (M.next p a)) (λ a. at xs (M.next q a)) (parting_sign M xs p q)
  unfolding parting_sign
  sign_differs xs p q = first_differs _ _ _

  pub depth_differs : (p q : ℕ) → FirstDiffers (suc (rounds M)) (λ i. at (layer M i) p) (λ i. at (layer M i) q) (depth M p q)
  unfolding depth
  depth_differs p q = first_differs _ _ _

  tells_alike : (p q : ℕ) → rounds M < depth M p q → telling M p q ≡ alike
  unfolding telling pick
  tells_alike p q h = rw lt-ltb

  tells_word : (p q : ℕ) → depth M p q ≤ rounds M → telling M p q ≡ apart (word_from M (depth M p q) p q)
  unfolding telling pick
  tells_word p q h = rw le-ltb

not-later_both : (w v : List ℕ) → length w ≡ length v → NotLater w v → NotLater v w → w ≡ v
not-later_both [] [] e h k = refl
not-later_both [] (b ∷ v) e h k = absurd (omega arith)
not-later_both (a ∷ w) [] e h k = absurd (omega arith)
not-later_both (a ∷ w) (b ∷ v) e (inl h) (inl k) = absurd (omega arith)
not-later_both (a ∷ w) (b ∷ v) e (inl h) (inr k) = absurd (omega (arith, k.0))
not-later_both (a ∷ w) (b ∷ v) e (inr h) (inl k) = absurd (omega (arith, h.0))
not-later_both (a ∷ w) (b ∷ v) e (inr h) (inr k) = ap₂ ◌∷◌ h.0 (not-later_both w v (omega arith) h.1 k.1)

-- one word tells two states apart
pub tells_unique : {M : Machine} {p q : ℕ} {w v : List ℕ} → Tells M p q w → Tells M p q v → w ≡ v
tells_unique {w = w} {v = v} s t =
    let e : length w ≡ length v = omega (arith, s.shortest v t.word t.parts, t.shortest w s.word s.parts) in
    not-later_both w v e (s.first v t.word t.parts (sym e)) (t.first w s.word s.parts e)

module _ (M : Machine) (lawful : Lawful M) where
  -- a sign in front of a telling word of d signs
  longer : (d p q a : ℕ) (w : List ℕ) → p < M.size → q < M.size
      → at (layer M d) p ≡ at (layer M d) q
      → a < M.signs
      → ((b : ℕ) → b < a → at (layer M d) (M.next p b) ≡ at (layer M d) (M.next q b))
      → Tells M (M.next p a) (M.next q a) w × (length w ≡ d)
      → Tells M p q (a ∷ w) × (length (a ∷ w) ≡ suc d)
  unfolding steps
  longer d p q a w k l e m before (t, n) =
      (record { word = (m, t.word); parts = t.parts; shortest = shortest; first = first }, omega arith)
    where
      shortest : (v : List ℕ) → Word M.signs v → ends M p v ≢ ends M q v → suc (length w) ≤ length v
      shortest v h u =
          elim (dec_lt d (length v)) [
            | yes s ↦ omega arith
            | no s ↦ absurd (u (((layer_words M lawful d p q k l).0 e).word v h (omega arith)))
          ]

      first : (v : List ℕ) → Word M.signs v → ends M p v ≢ ends M q v → length v ≡ suc (length w) → NotLater (a ∷ w) v
      first [] h u s = absurd (omega arith)
      first (b ∷ v) (i, h) u s =
          elim (dec_lt a b) [
            | yes r ↦ inl r
            | no r ↦
                elim (dec_lt b a) [
                  | yes c ↦ absurd (u (((layer_words M lawful d _ _ (lawful.next_in p b k i) (lawful.next_in q b l i)).0 (before b c)).word v h (omega arith)))
                  | no c ↦
                      let f : a ≡ b = omega arith in
                      inr (f, t.first v h (rw f u) (omega arith))
                ]
          ]

  -- two states that part in layer d and not before: the word of d signs tells them apart
  pub word_tells : (d p q : ℕ) → p < M.size → q < M.size
      → at (layer M d) p ≢ at (layer M d) q
      → ((i : ℕ) → i < d → at (layer M i) p ≡ at (layer M i) q)
      → Tells M p q (word_from M d p q) × (length (word_from M d p q) ≡ d)
  unfolding word_from steps
  word_tells zero p q k l u e =
      (record { word = tt; parts = λ h. u ((layer_zero M p q k l).1 h); shortest = λ v h n. omega arith; first = λ v h n s. tt }, omega arith)
  word_tells (suc d) p q k l u e =
      let a : ℕ = parting_sign M (layer M d) p q in
      let r = sign_differs M (layer M d) p q in
      let m : a < M.signs = differs_below _ a r (λ h. u ((layer_suc M d p q k l).1 (e d (omega arith), h))) in
      longer d p q a _ k l (e d (omega arith)) m r.before
      (word_tells d _ _ (lawful.next_in p a k m) (lawful.next_in q a l m) (r.here m)
      (λ i n. ((layer_suc M i p q k l).0 (e (suc i) (omega arith))).1 a m))

  pub telling_alike : (p q : ℕ) → p < M.size → q < M.size → (telling M p q ≡ alike) ↔ Same M p q
  unfolding classes
  telling_alike p q k l =
      let r = depth_differs M p q in
      elim (dec_lt (rounds M) (depth M p q)) [
        | yes h ↦ ((λ e. (classes_same M lawful p q k l).0 (r.before (rounds M) h)), (λ s. tells_alike M p q h))
        | no h ↦ (
          (λ e. let z : ◌≡◌ {A = ℕ} 0 1 = cc (tells_word M p q (omega arith)) in absurd (omega arith)),
          (λ s. absurd (r.here (omega arith) ((layer_words M lawful (depth M p q) p q k l).1 (record { word = λ w h n. s.word w h })))),
        )
      ]

  pub telling_apart : (p q : ℕ) (w : List ℕ) → p < M.size → q < M.size → telling M p q ≡ apart w → Tells M p q w × (length w ≤ rounds M)
  telling_apart p q w k l e =
      elim (dec_lt (rounds M) (depth M p q)) [
        | yes h ↦ let z : ◌≡◌ {A = ℕ} 0 1 = cc (tells_alike M p q h) in absurd (omega arith)
        | no h ↦
            let r = depth_differs M p q in
            let (t, n) = word_tells (depth M p q) p q k l (r.here (omega arith)) r.before in
            let f : w ≡ word_from M (depth M p q) p q = cc (tells_word M p q (omega arith)) in
            rw f (t, omega arith)
      ]

  -- the word that tells two states apart is the one handed out
  pub tells_telling : (p q : ℕ) (w : List ℕ) → p < M.size → q < M.size → Tells M p q w → telling M p q ≡ apart w
  tells_telling p q w k l t = by (telling M p q) refl
    where
      by : (d : Telling) → telling M p q ≡ d → d ≡ apart w
      by alike e = absurd (t.parts (((telling_alike p q k l).0 e).word w t.word))
      by (apart v) e = ap apart (tells_unique (telling_apart p q v k l e).0 t)
