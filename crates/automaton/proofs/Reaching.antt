-- Theorem (e): a state is in the computed list exactly when a word leads to it.
use mathlib.Core.Path.{◌≡◌, refl, sym, ap, ap₂, subst, subst₂, ◌∙◌}
use mathlib.Core.Logic.{◌↔◌, ◌⊎◌, inl, inr, ⊎_elim}
use mathlib.Core.Bool.{Bool, true, false, ◌&&◌, ◌||◌, not, or-true}
use mathlib.Core.List.{List, [], ◌∷◌, ◌++◌}
use Prim.Native.Nat.{ℕ, zero, suc, ◌+◌, ◌-◌, ◌≤◌, ◌<◌}
use native.Mathlib.Nat.{add-zero, add-suc, suc-add}
use native.Mathlib.Decide.{dec_lt}
use native.Mathlib.Omega.{arith}
use borrow.Author.Tests.{eq-eqb, eqb-true, not-true, not-false}
use lib.Dec.{eqb}
use lib.ListN.{length, get_or, length-append}
use Rattle.counting.specs.Least.{least}
use Rattle.counting.specs.Counts.{any, count}
use Rattle.counting.proofs.Tabs.{tab-at}
use Rattle.counting.proofs.Tallies.{and-true, any_iff, count_most, count_more, count_some}
use Rattle.counting.proofs.Leasts.{IsLeast, least_is}
use Rattle.counting.proofs.Climbs.{climb}
use Rattle.automaton.specs.Machine.{Machine, Lawful}
use Rattle.automaton.specs.Words.{Word, steps, Reached}
use Rattle.automaton.specs.Reach.{grow, reached_in, reachable}
use Rattle.automaton.proofs.Walks.{word_append, steps-append, steps_in}

module _ (M : Machine) (lawful : Lawful M) where
  -- list i has the state
  abbrev Has : ℕ → ℕ → Type 0
  Has i q = get_or (reached_in M i) q false ≡ true

  -- a state of list i leads to the state by one sign
  abbrev leads : ℕ → ℕ → ℕ → Bool
  leads i q p = get_or (reached_in M i) p false && any M.signs (λ a. eqb (M.next p a) q)

  start_has : Has 0 M.start
  unfolding reached_in
  start_has = tab-at M.size _ false M.start lawful.start-in ∙ eq-eqb M.start M.start refl

  has_start : (q : ℕ) → q < M.size → Has 0 q → M.start ≡ q
  unfolding reached_in
  has_start q l h = eqb-true M.start q (sym (tab-at M.size _ false q l) ∙ h)

  one_more : (i q : ℕ) → q < M.size → get_or (reached_in M (suc i)) q false ≡ (get_or (reached_in M i) q false || any M.size (leads i q))
  unfolding reached_in grow
  one_more i q l = tab-at M.size _ false q l

  keeps : (i q : ℕ) → q < M.size → Has i q → Has (suc i) q
  keeps i q l h = one_more i q l ∙ ap (λ (b : Bool). b || any M.size (leads i q)) h

  steps_on : (i p a : ℕ) → p < M.size → a < M.signs → Has i p → Has (suc i) (M.next p a)
  steps_on i p a l m h =
      let q : ℕ = M.next p a in
      let t : any M.signs (λ b. eqb (M.next p b) q) ≡ true = (any_iff M.signs (λ b. eqb (M.next p b) q)).1 (a, m, eq-eqb q q refl) in
      one_more i q (lawful.next_in p a l m)
      ∙ ap (λ (b : Bool). get_or (reached_in M i) q false || b) ((any_iff M.size (leads i q)).1 (p, l, ap₂ ◌&&◌ h t))
      ∙ or-true (get_or (reached_in M i) q false)

  -- a state of the next list is in this one, or the next state of one that is
  came : (i q : ℕ) → q < M.size → Has (suc i) q → (Has i q) ⊎ ((p : ℕ) × (p < M.size) × Has i p × (a : ℕ) × (a < M.signs) × (M.next p a ≡ q))
  came i q l h = by (get_or (reached_in M i) q false) refl (sym (one_more i q l) ∙ h)
    where
      by : (b : Bool) → get_or (reached_in M i) q false ≡ b → (b || any M.size (leads i q)) ≡ true → (Has i q) ⊎ ((p : ℕ) × (p < M.size) × Has i p × (a : ℕ) × (a < M.signs) × (M.next p a ≡ q))
      by true e f = inl e
      by false e f =
          let (p, k, g) = (any_iff M.size (leads i q)).0 f in
          let (u, v) = and-true (get_or (reached_in M i) p false) (any M.signs (λ a. eqb (M.next p a) q)) g in
          let (a, m, n) = (any_iff M.signs (λ a. eqb (M.next p a) q)).0 v in
          inr (p, k, u, a, m, eqb-true (M.next p a) q n)

  along : (i p : ℕ) (w : List ℕ) → p < M.size → Word M.signs w → Has i p → Has (i + length w) (steps M p w)
  unfolding steps
  along i p [] l h g = rw (add-zero i) g
  along i p (a ∷ w) l h g =
      rw (add-suc i (length w), ← suc-add i (length w)) (along (suc i) (M.next p a) w (lawful.next_in p a l h.0) h.1 (steps_on i p a l h.0 g))

  keeps_on : (i j q : ℕ) → q < M.size → Has i q → Has (i + j) q
  keeps_on i zero q l h = rw (add-zero i) h
  keeps_on i (suc j) q l h = rw (add-suc i j) (keeps (i + j) q l (keeps_on i j q l h))

  -- the words of at most i signs, and no others, lead to the states of list i
  pub reached_in_iff : (i q : ℕ) → q < M.size → (get_or (reached_in M i) q false ≡ true) ↔ ((w : List ℕ) × Word M.signs w × (length w ≤ i) × (steps M M.start w ≡ q))
  unfolding steps
  reached_in_iff i q l = (from i q l, to)
    where
      to : (w : List ℕ) × Word M.signs w × (length w ≤ i) × (steps M M.start w ≡ q) → Has i q
      to (w, h, m, e) =
          let g : Has (0 + length w) (steps M M.start w) = along 0 M.start w lawful.start-in h start_has in
          subst₂ Has (omega arith) e (keeps_on (0 + length w) (i - length w) (steps M M.start w) (steps_in M lawful M.start w lawful.start-in h) g)

      from : (i q : ℕ) → q < M.size → Has i q → (w : List ℕ) × Word M.signs w × (length w ≤ i) × (steps M M.start w ≡ q)
      from zero q l h = ([], tt, omega arith, has_start q l h)
      from (suc i) q l h =
          ⊎_elim
          (λ g.
          let (w, v, m, e) = from i q l g in
          (w, v, omega arith, e))
          (λ c.
          let (p, k, g, a, b, n) = c in
          let (w, v, m, e) = from i p k g in
          (w ++ (a ∷ []), word_append M.signs w (a ∷ []) v (b, tt), omega (arith, length-append w (a ∷ [])), steps-append M M.start w (a ∷ []) ∙ ap (λ (x : ℕ). M.next x a) e ∙ n))
          (came i q l h)

  -- list i + 1 has a state that list i has not
  abbrev new : ℕ → ℕ → Bool
  new i q = not (get_or (reached_in M i) q false) && get_or (reached_in M (suc i)) q false

  has_count : ℕ → ℕ
  has_count i = count M.size (λ q. get_or (reached_in M i) q false)

  grows : (i : ℕ) → any M.size (new i) ≡ true → has_count i < has_count (suc i)
  unfolding has_count
  grows i e =
      let (q, l, h) = (any_iff M.size (new i)).0 e in
      let (u, v) = and-true (not (get_or (reached_in M i) q false)) (get_or (reached_in M (suc i)) q false) h in
      count_more M.size _ _ (keeps i) q l (not-true _ u) v

  -- once nothing is new, nothing is new any more
  settled : (i : ℕ) → any M.size (new i) ≡ false → (j q : ℕ) → q < M.size → Has (i + j) q → Has i q
  settled i e = all_old
    where
      old : (q : ℕ) → q < M.size → Has (suc i) q → Has i q
      old q l h = by (get_or (reached_in M i) q false) refl
        where
          by : (b : Bool) → get_or (reached_in M i) q false ≡ b → Has i q
          by true f = f
          by false f =
              let z : ◌≡◌ {A = ℕ} 0 1 = cc ((any_iff M.size (new i)).1 (q, l, ap₂ ◌&&◌ (ap not f) h)) in
              absurd (omega arith)

      all_old : (j q : ℕ) → q < M.size → Has (i + j) q → Has i q
      all_old zero q l h = rw (add-zero i) at h
      all_old (suc j) q l h =
          ⊎_elim (all_old j q l)
          (λ c.
          let (p, k, g, a, m, n) = c in
          old q l (rw n at (steps_on i p a k m (all_old j p k g))))
          (came (i + j) q l (rw (add-suc i j) at h))

  -- some list, not beyond the number of states, is the last that is new
  last : (i : ℕ) × (i < M.size) × (any M.size (new i) ≡ false)
  unfolding has_count
  last = by (dec_lt r M.size)
    where
      r : ℕ
      r = least M.size (λ i. not (any M.size (new i)))

      is : IsLeast M.size (λ i. not (any M.size (new i))) r
      is = least_is M.size (λ i. not (any M.size (new i)))

      by : Dec (r < M.size) → (i : ℕ) × (i < M.size) × (any M.size (new i) ≡ false)
      by (yes l) = (r, l, not-true _ (is.holds l))
      by (no u) =
          let c : M.size + has_count 0 ≤ has_count M.size = climb has_count M.size (λ i l. grows i (not-false _ (is.before i (omega arith)))) in
          let m : has_count M.size ≤ M.size = count_most M.size _ in
          let s : 0 < has_count 0 = count_some M.size _ M.start lawful.start-in start_has in
          absurd (omega arith)

  -- (e)
  pub reachable_iff : (q : ℕ) → q < M.size → (get_or (reachable M) q false ≡ true) ↔ Reached M q
  unfolding reachable
  reachable_iff q l = (from, to)
    where
      from : Has M.size q → Reached M q
      from h =
          let (w, v, m, e) = (reached_in_iff M.size q l).0 h in
          record { by = w; word = v; leads = e }

      to : Reached M q → Has M.size q
      to r =
          let (i, m, e) = last in
          let w : List ℕ = r.by in
          let g : Has (0 + length w) q = rw r.leads at (along 0 M.start w lawful.start-in r.word start_has) in
          let f : Has (i + length w) q = subst (λ (x : ℕ). Has x q) (omega arith) (keeps_on (0 + length w) i q l g) in
          subst (λ (x : ℕ). Has x q) (omega arith) (keeps_on i (M.size - i) q l (settled i e (length w) q l f))
