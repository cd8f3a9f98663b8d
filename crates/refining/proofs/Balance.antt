-- The account of a take: it lowers the sum of pending by 1, and each class that is split adds k to the sum and 1 to the classes.
use mathlib.Core.Path.{◌≡◌, refl, sym, ap, ap₂, ◌∙◌}
use mathlib.Core.Logic.{◌≢◌}
use mathlib.Core.Bool.{Bool, true, false, not, ◌&&◌, true≢false, and-false, and-true as right-true}
use Prim.Native.Nat.{ℕ, suc, pred, ◌+◌, ◌*◌, ◌≤◌, ◌<◌}
use native.Mathlib.Nat.{add-zero, zero-add, le_antisymm, mul-add, mul-one, mul-zero}
use native.Mathlib.Decide.{ℕ_discrete}
use native.Mathlib.Omega.{arith}
use borrow.Author.Tests.{eq-eqb, ne_eqb, eqb-true, eqb-false, not-true}
use lib.Dec.{eqb, leb}
use Rattle.counting.specs.Lists.{at}
use Rattle.counting.specs.Least.{pick}
use Rattle.counting.specs.Counts.{count}
use Rattle.counting.specs.Sums.{sum}
use Rattle.counting.proofs.Tallies.{and-true, count_found}
use Rattle.counting.proofs.Sums.{sum_cong, sum_add, sum_scale, sum_change, sum_carried, count-sum}
use Rattle.automaton.specs.Machine.{Machine, Lawful}
use Rattle.automaton.specs.Layers.{class_count}
use Rattle.refining.specs.Lists.{Split, WellFormed, waiting}
use Rattle.refining.specs.Take.{taken_class, taken_sign, take}
use Rattle.refining.proofs.Points.{class_of, goes, kept, gone, old, NewName, taken_in, taken_pending, name_stays, some_gone, none_gone, class_stays, class_goes, pending_new, pending_old}

pick_and : (t u : Bool) (a b : ℕ) → pick (t && u) a b ≡ pick t (pick u a b) b
unfolding pick
pick_and true u a b = refl
pick_and false u a b = refl

-- a split class adds k, whichever part waits
split_adds : (t u : Bool) (k o : ℕ) → pick t (pick u k o) o + pick t (pick u o k) 0 ≡ o + k * pick t 1 0
unfolding pick
split_adds true true k o = omega (arith, mul-one k)
split_adds true false k o = omega (arith, mul-one k)
split_adds false u k o = omega (arith, mul-zero k)

module _ (M : Machine) (lawful : Lawful M) (s : Split) (w : WellFormed M.size M.signs s) (e : waiting M.size s ≡ true) where
  abbrev n : ℕ
  n = M.size

  abbrev k : ℕ
  k = M.signs

  abbrev class : ℕ → ℕ
  class x = class_of s x

  abbrev class' : ℕ → ℕ
  class' x = class_of (take M s) x

  -- a name that was none before
  is_new : ℕ → Bool
  is_new x = eqb (class' x) x && not (eqb (class x) x)

  -- a class that is split
  is_split : ℕ → Bool
  is_split p = eqb (class p) p && not (eqb (gone M s p) 0)

  -- the pending that goes with the new name of a split class
  given : ℕ → ℕ
  given p = pick (leb (kept M s p) (gone M s p)) (old M s p) k

  name_in : (x : ℕ) → x < n → class x < n
  name_in x l = omega (arith, w.low x l)

  new_facts : (r : ℕ) → is_new r ≡ true → (class' r ≡ r) × (class r ≢ r)
  unfolding is_new
  new_facts r h =
      let (u, v) = and-true (eqb (class' r) r) (not (eqb (class r) r)) h in
      (eqb-true (class' r) r u, eqb-false (class r) r (not-true (eqb (class r) r) v))

  goes_of : (r : ℕ) → r < n → (t : Bool) → goes M s r ≡ t → class' r ≡ r → class r ≢ r → goes M s r ≡ true
  goes_of r l true h f u = h
  goes_of r l false h f u = absurd (u (sym (class_stays M lawful s w e r l h) ∙ f))

  new_goes : (r : ℕ) → r < n → is_new r ≡ true → goes M s r ≡ true
  new_goes r l h = goes_of r l (goes M s r) refl (new_facts r h).0 (new_facts r h).1

  split_facts : (p : ℕ) → is_split p ≡ true → (class p ≡ p) × (gone M s p ≢ 0)
  unfolding is_split
  split_facts p h =
      let (u, v) = and-true (eqb (class p) p) (not (eqb (gone M s p) 0)) h in
      (eqb-true (class p) p u, eqb-false (gone M s p) 0 (not-true (eqb (gone M s p) 0) v))

  inside : (r : ℕ) → r < n → is_new r ≡ true → (class r < n) × (is_split (class r) ≡ true)
  unfolding is_split
  inside r l h = (
    name_in r l,
    ap₂ ◌&&◌ (eq-eqb (class (class r)) (class r) (w.named r l)) (ap not (ne_eqb (gone M s (class r)) 0 (some_gone M lawful s w e r l (new_goes r l h)))),
  )

  here : (p : ℕ) → p < n → is_split p ≡ true → (r : ℕ) × (r < n) × (is_new r ≡ true) × (class r ≡ p)
  unfolding is_new gone
  here p l h =
      let (f, u) = split_facts p h in
      let (y, m, g) = count_found n (λ x. eqb (class x) p && goes M s x) (omega arith) in
      let (c, d) = and-true (eqb (class y) p) (goes M s y) g in
      let r : ℕ = class' y in
      let a : NewName M s y r = class_goes M lawful s w e y m d in
      let i : r < n = omega (arith, a.below) in
      let b : NewName M s r (class' r) = class_goes M lawful s w e r i a.going in
      let same : class' r ≡ r = omega (arith, b.below, a.least (class' r) (omega (arith, b.below)) (b.class ∙ a.class) b.going) in
      let other : class r ≢ r = λ z. true≢false (sym a.going ∙ ap (goes M s) (sym z) ∙ name_stays M lawful s w e r i) in
      (r, i, ap₂ ◌&&◌ (eq-eqb (class' r) r same) (ap not (ne_eqb (class r) r other)), a.class ∙ eqb-true (class y) p c)

  least_new : (r t : ℕ) → r < n → t < n → is_new r ≡ true → is_new t ≡ true → class r ≡ class t → r ≤ t
  least_new r t l m h g f =
      omega (arith, (new_facts r h).0, (class_goes M lawful s w e r l (new_goes r l h)).least t m (sym f) (new_goes t m g))

  one : (r t : ℕ) → r < n → t < n → is_new r ≡ true → is_new t ≡ true → class r ≡ class t → r ≡ t
  one r t l m h g f = le_antisymm (least_new r t l m h g f) (least_new t r m l g h (sym f))

  -- what is carried from new names to split classes
  carried : (g : ℕ → ℕ) → sum n (λ r. pick (is_new r) (g (class r)) 0) ≡ sum n (λ p. pick (is_split p) (g p) 0)
  carried g = sum_carried n is_new is_split class g inside here one

  lowered-sum : sum n (old M s) + 1 ≡ sum n (at s.pending)
  unfolding old pick
  lowered-sum =
      let q : ℕ = taken_class n s in
      let a : ℕ = taken_sign n s in
      let p : at s.pending q ≡ suc a = taken_pending M lawful s w e in
      let o : old M s q ≡ a = rw (eq-eqb q q refl) (ap pred p) in
      omega (arith, sum_change n (old M s) (at s.pending) q (taken_in M lawful s w e) (λ i l u. rw (ne_eqb i q u)))

  none_old : (x : ℕ) → x < n → class x ≢ x → old M s x ≡ 0
  unfolding old pick
  none_old x l u =
      elim (eqb x (taken_class n s)) as (λ b. pick b (pred (at s.pending x)) (at s.pending x) ≡ 0) [ true ↦ ap pred (w.none x l u) | false ↦ w.none x l u ]

  old_not_new : (x : ℕ) → class x ≡ x → is_new x ≡ false
  unfolding is_new
  old_not_new x c = rw (eq-eqb (class x) x c, and-false (eqb (class' x) x))

  -- the pending of each state: what its old name has after, and what its new name is given
  pending_parts : (x : ℕ) → x < n
      → at (take M s).pending x ≡ pick (is_split x) (pick (leb (kept M s x) (gone M s x)) k (old M s x)) (old M s x) + pick (is_new x) (given (class x)) 0
  unfolding is_split is_new given pick
  pending_parts x l = by (ℕ_discrete (class x) x) (ℕ_discrete (class' x) x)
    where
      by : Dec (class x ≡ x) → Dec (class' x ≡ x) → at (take M s).pending x ≡ pick (is_split x) (pick (leb (kept M s x) (gone M s x)) k (old M s x)) (old M s x) + pick (is_new x) (given (class x)) 0
      by (yes c) d =
          pending_old M lawful s w e x l (λ h. h.1 c)
          ∙ rw (old_not_new x c, eq-eqb (class x) x c, add-zero) (pick_and (not (eqb (gone M s x) 0)) (leb (kept M s x) (gone M s x)) k (old M s x))
      by (no u) (yes f) =
          pending_new M lawful s w e x l f u ∙ rw (eq-eqb (class' x) x f, ne_eqb (class x) x u, none_old x l u) (sym (zero-add (given (class x))))
      by (no u) (no v) =
          pending_old M lawful s w e x l (λ h. v h.0) ∙ rw (ne_eqb (class' x) x v, ne_eqb (class x) x u, none_gone M lawful s w e x u) (sym (add-zero (old M s x)))

  -- the names after: those before and the new ones
  name_parts : (x : ℕ) → x < n → pick (eqb (class' x) x) 1 0 ≡ pick (eqb (class x) x) 1 0 + pick (is_new x) 1 0
  unfolding is_new pick
  name_parts x l = by (ℕ_discrete (class x) x)
    where
      by : Dec (class x ≡ x) → pick (eqb (class' x) x) 1 0 ≡ pick (eqb (class x) x) 1 0 + pick (is_new x) 1 0
      by (yes c) =
          let f : class' x ≡ x = class_stays M lawful s w e x l (ap (goes M s) (sym c) ∙ name_stays M lawful s w e x l) ∙ c in
          rw (eq-eqb (class' x) x f, eq-eqb (class x) x c)
      by (no u) = rw (ne_eqb (class x) x u, right-true (eqb (class' x) x)) (omega arith)

  pub take_balance : suc (sum n (at (take M s).pending)) + k * class_count n s.class ≡ sum n (at s.pending) + k * class_count n (take M s).class
  unfolding class_count given
  take_balance =
      let split : ℕ = sum n (λ p. pick (is_split p) 1 0) in
      let own : ℕ → ℕ = λ p. pick (is_split p) (pick (leb (kept M s p) (gone M s p)) k (old M s p)) (old M s p) in
      let after : sum n (at (take M s).pending) ≡ sum n (old M s) + k * split =
      sum_cong n (at (take M s).pending) _ pending_parts
      ∙ sum_add n own (λ x. pick (is_new x) (given (class x)) 0)
      ∙ ap (λ (x : ℕ). sum n own + x) (carried given)
      ∙ sym (sum_add n own (λ p. pick (is_split p) (given p) 0))
      ∙ sum_cong n _ (λ p. old M s p + k * pick (is_split p) 1 0) (λ p l. split_adds (is_split p) (leb (kept M s p) (gone M s p)) k (old M s p))
      ∙ sum_add n (old M s) (λ p. k * pick (is_split p) 1 0)
      ∙ ap (λ (x : ℕ). sum n (old M s) + x) (sum_scale n k (λ p. pick (is_split p) 1 0))
      in
      let names : count n (λ x. eqb (class' x) x) ≡ count n (λ x. eqb (class x) x) + split =
      count-sum n (λ x. eqb (class' x) x)
      ∙ sum_cong n _ _ name_parts
      ∙ sum_add n (λ x. pick (eqb (class x) x) 1 0) (λ x. pick (is_new x) 1 0)
      ∙ ap₂ ◌+◌ (sym (count-sum n (λ x. eqb (class x) x))) (carried (λ p. 1))
      in
      omega (arith, lowered-sum, after, ap (λ (x : ℕ). k * x) names, mul-add k (count n (λ x. eqb (class x) x)) split)
