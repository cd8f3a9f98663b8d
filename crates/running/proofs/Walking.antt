-- Walking along a word sign by sign: one sign more, the whole word, and the ways out of a walk.
use mathlib.Core.Path.{◌≡◌, refl, sym, ap, ap₂, ◌∙◌}
use mathlib.Core.List.{List, [], ◌∷◌}
use Prim.Native.Nat.{ℕ, ◌+◌, ◌≤◌, ◌<◌}
use native.Mathlib.Decide.{dec_lt}
use native.Mathlib.Omega.{arith}
use borrow.Author.Tests.{lt-ltb, le-ltb, lt-leb, leb-false}
use lib.Dec.{leb}
use lib.ListN.{length, take}
use lib.Seq.{take_all}
use Rattle.std.specs.Prelude.{Result, Ok, Err}
use Rattle.counting.specs.Lists.{at}
use Rattle.counting.specs.Least.{pick}
use Rattle.counting.proofs.Leasts.{least_is, least_none}
use Rattle.counting.proofs.Tabs.{take_more}
use Rattle.automaton.specs.Machine.{Machine}
use Rattle.automaton.specs.Words.{Word, steps}
use Rattle.automaton.proofs.Walks.{steps-append, word_each, word_at}
use Rattle.running.specs.Running.{bad_sign, walked}

module _ (M : Machine) (q : ℕ) (w : List ℕ) where
  -- one sign more: from p under a to r
  pub steps_more : (i p a r : ℕ) → i < length w → p ≡ steps M q (take i w) → a ≡ at w i → r ≡ M.next p a → r ≡ steps M q (take (i + 1) w)
  unfolding steps
  steps_more i p a r l e f g = g ∙ ap₂ M.next e f ∙ sym (ap (steps M q) (take_more w i 0 l) ∙ steps-append M q (take i w) (at w i ∷ []))

  pub steps_whole : (i : ℕ) → length w ≤ i → steps M q (take i w) ≡ steps M q w
  steps_whole i l = ap (steps M q) (take_all i w l)

module _ (M : Machine) (word : List ℕ) where
  pub bad_most : bad_sign M.signs word ≤ length word
  unfolding bad_sign
  bad_most = (least_is (length word) _).within

  pub walk_strange : (i : ℕ) → bad_sign M.signs word ≡ i → i < length word → walked M word ≡ Err i
  unfolding walked pick
  walk_strange i e l = rw (e, lt-ltb i (length word) l)

  pub walk_stands : bad_sign M.signs word ≡ length word → walked M word ≡ Ok (steps M M.start word)
  unfolding walked pick
  walk_stands e = rw (e, le-ltb (length word) (length word) (omega arith))

  -- what the end of a walk tells
  pub strange_of : (i : ℕ) → walked M word ≡ Err i → (bad_sign M.signs word ≡ i) × (i < length word)
  strange_of i e = by (dec_lt (bad_sign M.signs word) (length word))
    where
      by : Dec (bad_sign M.signs word < length word) → (bad_sign M.signs word ≡ i) × (i < length word)
      by (yes l) =
          let f : ◌≡◌ {A = Result ℕ ℕ} (Err (bad_sign M.signs word)) (Err i) = sym (walk_strange (bad_sign M.signs word) refl l) ∙ e in
          let g : bad_sign M.signs word ≡ i = cc in
          (g, omega arith)
      by (no u) =
          let b : bad_sign M.signs word ≤ length word = bad_most in
          let f : ◌≡◌ {A = Result ℕ ℕ} (Ok (steps M M.start word)) (Err i) = sym (walk_stands (omega arith)) ∙ e in
          let z : ◌≡◌ {A = ℕ} 0 1 = cc in
          absurd (omega arith)

  pub stands_of : (q : ℕ) → walked M word ≡ Ok q → (bad_sign M.signs word ≡ length word) × (q ≡ steps M M.start word)
  stands_of q e = by (dec_lt (bad_sign M.signs word) (length word))
    where
      by : Dec (bad_sign M.signs word < length word) → (bad_sign M.signs word ≡ length word) × (q ≡ steps M M.start word)
      by (yes l) =
          let f : ◌≡◌ {A = Result ℕ ℕ} (Err (bad_sign M.signs word)) (Ok q) = sym (walk_strange (bad_sign M.signs word) refl l) ∙ e in
          let z : ◌≡◌ {A = ℕ} 0 1 = cc in
          absurd (omega arith)
      by (no u) =
          let b : bad_sign M.signs word ≤ length word = bad_most in
          let g : bad_sign M.signs word ≡ length word = omega arith in
          let f : ◌≡◌ {A = Result ℕ ℕ} (Ok (steps M M.start word)) (Ok q) = sym (walk_stands g) ∙ e in
          (g, cc)

-- a list without a strange sign is a word
pub word_of : (k : ℕ) (word : List ℕ) → bad_sign k word ≡ length word → Word k word
unfolding bad_sign
word_of k word e = word_each k word (λ i l. leb-false k (at word i) ((least_is (length word) (λ i. leb k (at word i))).before i (omega arith)))

-- a word has no strange sign
pub word_clean : (k : ℕ) (word : List ℕ) → Word k word → bad_sign k word ≡ length word
unfolding bad_sign
word_clean k word h = least_none (length word) (λ i. leb k (at word i)) (λ i l. lt-leb k (at word i) (word_at k word h i l))
