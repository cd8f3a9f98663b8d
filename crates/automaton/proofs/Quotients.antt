-- Theorem (f), over any list of rows: the quotient is lawful, gives every word the kind it had, and is connected and collapsed.
use mathlib.Core.Path.{◌≡◌, refl, sym, ap, subst, ◌∙◌}
use mathlib.Core.List.{List, [], ◌∷◌, ◌++◌}
use Prim.Native.Nat.{ℕ, ◌<◌}
use native.Mathlib.Omega.{arith}
use lib.ListN.{length}
use Rattle.counting.specs.Lists.{at}
use Rattle.counting.specs.Counts.{place}
use Rattle.counting.proofs.Thoses.{place_here}
use Rattle.automaton.specs.Machine.{Machine, Lawful}
use Rattle.automaton.specs.Words.{Word, steps, ends, Same, Equivalent, Reached}
use Rattle.automaton.specs.Layers.{classes}
use Rattle.automaton.specs.Quotient.{quotient_by, RowsOf, Connected, Collapsed}
use Rattle.automaton.proofs.Walks.{steps-append, word_append, same_next, reached-in}
use Rattle.automaton.proofs.Settling.{classes_same, classes-in, classes_member}

-- a word behind a word that leads somewhere leads on
pub reached_steps : (M : Machine) (q : ℕ) (w : List ℕ) → Word M.signs w → Reached M q → Reached M (steps M q w)
reached_steps M q w h r = record {
  by = r.by ++ w;
  word = word_append M.signs r.by w r.word h;
  leads = steps-append M M.start r.by w ∙ ap (λ (p : ℕ). steps M p w) r.leads;
}

pub reached_next : (M : Machine) (q a : ℕ) → a < M.signs → Reached M q → Reached M (M.next q a)
unfolding steps
reached_next M q a l r = reached_steps M q (a ∷ []) (l, tt) r

pub reached_start : (M : Machine) → Reached M M.start
unfolding steps
reached_start M = record { by = []; word = tt; leads = refl }

module _ (M : Machine) (lawful : Lawful M) (rs : List ℕ) (of : RowsOf M rs) where
  abbrev class : ℕ → ℕ
  class q = at (classes M) q

  abbrev Q : Machine
  Q = quotient_by M (classes M) rs

  -- the row of a state's class
  abbrev row : ℕ → ℕ
  row q = place rs (class q)

  row_here : (q : ℕ) → Reached M q → (row q < length rs) × (at rs (row q) ≡ class q)
  row_here q r =
      let (i, l, e) = of.here q (reached-in M lawful q r) r in
      subst (λ (c : ℕ). (place rs c < length rs) × (at rs (place rs c) ≡ c)) e (place_here rs i l)

  -- the row is that of a reached state, which is the same as the one that the row is named by
  named : (i : ℕ) → i < length rs → (q : ℕ) × Reached M q × (row q ≡ i) × Same M (at rs i) q × (class q ≡ at rs i)
  named i l =
      let (q, k, r, e) = of.only i l in
      let (m, f) = row_here q r in
      (q, r, of.once (row q) i m l (f ∙ e), subst (λ (c : ℕ). Same M c q) e (classes_member M lawful q k), e)

  row_next : (q a : ℕ) → a < M.signs → Reached M q → Q.next (row q) a ≡ row (M.next q a)
  row_next q a l r =
      let k : q < M.size = reached-in M lawful q r in
      let c : class q < M.size = classes-in M lawful q k in
      let n : M.next q a < M.size = lawful.next_in q a k l in
      let m : M.next (class q) a < M.size = lawful.next_in (class q) a c l in
      ap (λ (p : ℕ). place rs (class (M.next p a))) (row_here q r).1
      ∙ ap (place rs) ((classes_same M lawful (M.next (class q) a) (M.next q a) m n).1 (same_next M a l (classes_member M lawful q k)))

  pub quotient_lawful : Lawful Q
  quotient_lawful = record {
    some_state = omega (arith, (row_here M.start (reached_start M)).0);
    some_sign = lawful.some_sign;
    start-in = (row_here M.start (reached_start M)).0;
    next_in = λ i a l m.
        let (q, r, e, s, c) = named i l in
        subst (λ (x : ℕ). x < length rs) (sym (row_next q a m r) ∙ ap (λ (j : ℕ). Q.next j a) e) (row_here (M.next q a) (reached_next M q a m r)).0;
  }

  -- from the row of a reached state a word leads to the row of the state that it leads to
  row_steps : (q : ℕ) (w : List ℕ) → Word M.signs w → Reached M q → steps Q (row q) w ≡ row (steps M q w)
  unfolding steps
  row_steps q [] h r = refl
  row_steps q (a ∷ w) h r =
      ap (λ (j : ℕ). steps Q j w) (row_next q a h.0 r) ∙ row_steps (M.next q a) w h.1 (reached_next M q a h.0 r)

  row_ends : (q : ℕ) (w : List ℕ) → Word M.signs w → Reached M q → ends Q (row q) w ≡ ends M q w
  unfolding steps
  row_ends q w h r =
      let s : ℕ = steps M q w in
      let t : Reached M s = reached_steps M q w h r in
      ap (λ (j : ℕ). M.kind (at rs j)) (row_steps q w h r) ∙ ap M.kind (row_here s t).1 ∙ (classes_member M lawful s (reached-in M lawful s t)).word [] tt

  -- a row's word leads to the row of the class of the state that it led to
  pub quotient-steps : (w : List ℕ) → Word M.signs w → steps Q Q.start w ≡ place rs (at (classes M) (steps M M.start w))
  quotient-steps w h = row_steps M.start w h (reached_start M)

  -- (f)
  pub quotient_equivalent : Equivalent M Q
  quotient_equivalent = record { signs = refl; word = λ w h. sym (row_ends M.start w h (reached_start M)) }

  pub quotient_connected : Connected Q
  quotient_connected i l =
      let (q, r, e, s, c) = named i l in
      record { by = r.by; word = r.word; leads = quotient-steps r.by r.word ∙ ap row r.leads ∙ e }

  pub quotient_collapsed : Collapsed Q
  quotient_collapsed i j k l s =
      let (p, r, e, t, c) = named i k in
      let (q, r', e', t', c') = named j l in
      let m : p < M.size = reached-in M lawful p r in
      let n : q < M.size = reached-in M lawful q r' in
      let same : Same M p q = record { word = λ w h. sym (row_ends p w h r) ∙ ap (λ (x : ℕ). ends Q x w) e ∙ s.word w h ∙ ap (λ (x : ℕ). ends Q x w) (sym e') ∙ row_ends q w h r' } in
      of.once i j k l (sym c ∙ (classes_same M lawful p q m n).1 same ∙ c')
