-- Laws of words and steps; being the same to every word is an equivalence that steps keep; Watson's words for marks; what machines that agree share.
use mathlib.Core.Path.{◌≡◌, refl, sym, ap, subst, ◌∙◌}
use mathlib.Core.Logic.{◌↔◌}
use mathlib.Core.List.{List, [], ◌∷◌, ◌++◌}
use Prim.Native.Nat.{ℕ, zero, suc, ◌≤◌, ◌<◌}
use native.Mathlib.Decide.{ℕ_discrete}
use native.Mathlib.Omega.{arith}
use lib.ListN.{length}
use Rattle.counting.specs.Lists.{at}
use Rattle.automaton.specs.Machine.{Machine, Lawful, Agree}
use Rattle.automaton.specs.Words.{Word, steps, ends, Same, Inseparable, Marked, Equivalent, Reached}

pub word_append : (k : ℕ) (v w : List ℕ) → Word k v → Word k w → Word k (v ++ w)
word_append k [] w h l = l
word_append k (a ∷ v) w h l = (h.0, word_append k v w h.1 l)

pub steps-append : (M : Machine) (q : ℕ) (v w : List ℕ) → steps M q (v ++ w) ≡ steps M (steps M q v) w
unfolding steps
steps-append M q [] w = refl
steps-append M q (a ∷ v) w = steps-append M (M.next q a) v w

-- a list whose every element is a sign is a word
pub word_each : (k : ℕ) (w : List ℕ) → ((i : ℕ) → i < length w → at w i < k) → Word k w
word_each k [] h = tt
word_each k (a ∷ w) h = (h zero (omega arith), word_each k w (λ i l. h (suc i) (omega arith)))

-- and every element of a word is a sign
pub word_at : (k : ℕ) (w : List ℕ) → Word k w → (i : ℕ) → i < length w → at w i < k
word_at k [] h i l = absurd (omega arith)
word_at k (a ∷ w) h zero l = h.0
word_at k (a ∷ w) h (suc i) l = word_at k w h.1 i (omega arith)

-- steps look at next states alone
pub steps_next : (M N : Machine) → ((q a : ℕ) → M.next q a ≡ N.next q a) → (q : ℕ) (w : List ℕ) → steps M q w ≡ steps N q w
unfolding steps
steps_next M N h q [] = refl
steps_next M N h q (a ∷ w) = ap (λ (p : ℕ). steps M p w) (h q a) ∙ steps_next M N h (N.next q a) w

module _ (M : Machine) where
  pub same_refl : (q : ℕ) → Same M q q
  same_refl q = record { word = λ w h. refl }

  pub same_sym : {p q : ℕ} → Same M p q → Same M q p
  same_sym s = record { word = λ w h. sym (s.word w h) }

  pub same_trans : {p q r : ℕ} → Same M p q → Same M q r → Same M p r
  same_trans s t = record { word = λ w h. s.word w h ∙ t.word w h }

  pub same_next : {p q : ℕ} (a : ℕ) → a < M.signs → Same M p q → Same M (M.next p a) (M.next q a)
  unfolding steps
  same_next a l s = record { word = λ w h. s.word (a ∷ w) (l, h) }

  pub same_steps : {p q : ℕ} (w : List ℕ) → Word M.signs w → Same M p q → Same M (steps M p w) (steps M q w)
  unfolding steps
  same_steps [] h s = s
  same_steps {p = p} {q = q} (a ∷ w) h s = same_steps {p = M.next p a} {q = M.next q a} w h.1 (same_next a h.0 s)

  module _ (lawful : Lawful M) where
    pub steps_in : (q : ℕ) (w : List ℕ) → q < M.size → Word M.signs w → steps M q w < M.size
    unfolding steps
    steps_in q [] l h = l
    steps_in q (a ∷ w) l h = steps_in (M.next q a) w (lawful.next_in q a l h.0) h.1

    pub reached-in : (q : ℕ) → Reached M q → q < M.size
    reached-in q r = subst (λ (x : ℕ). x < M.size) r.leads (steps_in M.start r.by lawful.start-in r.word)

    -- for marks, `Same` is Watson's "no word is accepted from one of them only"
    pub same_iff_inseparable : Marked M → (p q : ℕ) → p < M.size → q < M.size → Same M p q ↔ Inseparable M p q
    same_iff_inseparable m p q l k = (
      (λ s. record { word = λ w h. ((λ e. sym (s.word w h) ∙ e), (λ e. s.word w h ∙ e)) }),
      (λ i. record { word = λ w h. one (m _ (steps_in p w l h)) (m _ (steps_in q w k h)) (i.word w h) }),
    )
      where
        -- two marks that are 1 together are equal
        one : {x y : ℕ} → x ≤ 1 → y ≤ 1 → (x ≡ 1) ↔ (y ≡ 1) → x ≡ y
        one {x} {y} a b e = elim (ℕ_discrete x 1) [ yes f ↦ f ∙ sym (e.0 f) | no u ↦ elim (ℕ_discrete y 1) [ yes g ↦ e.1 g ∙ sym g | no v ↦ omega arith ] ]

pub agree_sym : {M N : Machine} → Agree M N → Agree N M
agree_sym a = record {
  size = sym a.size;
  signs = sym a.signs;
  start = sym a.start;
  next = λ q b l m. sym (a.next q b (omega (arith, a.size)) (omega (arith, a.signs)));
  kind = λ q l. sym (a.kind q (omega (arith, a.size)));
}

module _ (M N : Machine) (lawful : Lawful M) (a : Agree M N) where
  agree-steps : (q : ℕ) (w : List ℕ) → q < M.size → Word M.signs w → steps M q w ≡ steps N q w
  unfolding steps
  agree-steps q [] l h = refl
  agree-steps q (b ∷ w) l h = agree-steps (M.next q b) w (lawful.next_in q b l h.0) h.1 ∙ ap (λ (p : ℕ). steps N p w) (a.next q b l h.0)

  agree-ends : (q : ℕ) (w : List ℕ) → q < M.size → Word M.signs w → ends M q w ≡ ends N q w
  agree-ends q w l h = a.kind (steps M q w) (steps_in M lawful q w l h) ∙ ap N.kind (agree-steps q w l h)

  -- machines that agree give every word the same kind
  pub agree_equivalent : Equivalent M N
  agree_equivalent = record {
    signs = a.signs;
    word = λ w h. agree-ends M.start w lawful.start-in h ∙ ap (λ (q : ℕ). ends N q w) a.start;
  }

  -- what is reached in one is reached in the other, by the same word
  pub agree_reached : (q : ℕ) → Reached M q → Reached N q
  agree_reached q r = record {
    by = r.by;
    word = subst (λ (k : ℕ). Word k r.by) a.signs r.word;
    leads = ap (λ (p : ℕ). steps N p r.by) (sym a.start) ∙ sym (agree-steps M.start r.by lawful.start-in r.word) ∙ r.leads;
  }

  -- states that are the same in one are the same in the other
  pub agree_same : (p q : ℕ) → p < M.size → q < M.size → Same M p q → Same N p q
  agree_same p q l m s = record {
    word = λ w h.
        let k : Word M.signs w = subst (λ (k : ℕ). Word k w) (sym a.signs) h in
        sym (agree-ends p w l k) ∙ s.word w k ∙ agree-ends q w m k;
  }
