-- Runs from any well_formed lists: budgets add up, the account of takes, and an end within n × k takes.
use mathlib.Core.Path.{◌≡◌, refl, sym, ap, subst, ◌∙◌}
use mathlib.Core.Bool.{Bool, true, false, not, true≢false}
use mathlib.Core.List.{List, [], ◌∷◌}
use Prim.Native.Nat.{ℕ, zero, suc, ◌+◌, ◌*◌, ◌≤◌, ◌<◌}
use native.Mathlib.Nat.{zero-add, suc-add, mul_comm, mul-one, mul-le-mul_left}
use native.Mathlib.Omega.{arith}
use native.Mathlib.Decide.{ℕ_discrete}
use borrow.Author.Tests.{eq-eqb, ne_eqb, eqb-false, not-true}
use lib.Dec.{eqb}
use lib.ListN.{length}
use Rattle.counting.specs.Lists.{at}
use Rattle.counting.specs.Least.{pick}
use Rattle.counting.specs.Sums.{sum}
use Rattle.counting.proofs.Cases.{by_test}
use Rattle.counting.proofs.Tabs.{tab-length}
use Rattle.counting.proofs.Tallies.{any_iff, count_most}
use Rattle.counting.proofs.Sums.{sum_mono, sum_scale, term_le, count-sum}
use Rattle.automaton.specs.Machine.{Machine, Lawful}
use Rattle.automaton.specs.Layers.{class_count}
use Rattle.refining.specs.Lists.{Split, WellFormed, waiting}
use Rattle.refining.specs.Take.{split_class, split_pending, take_by, take, entries}
use Rattle.refining.specs.Run.{step, step_takes, step_entries, run_lists, run_takes, run_entries, all_lists, all_takes, all_entries, total}
use Rattle.refining.proofs.Keeping.{take_keeps}
use Rattle.refining.proofs.Balance.{take_balance}

pub lists_add : (M : Machine) (b c : ℕ) (s : Split) → run_lists M (b + c) s ≡ run_lists M c (run_lists M b s)
unfolding run_lists
lists_add M zero c s = ap (λ (x : ℕ). run_lists M x s) (zero-add c)
lists_add M (suc b) c s = ap (λ (x : ℕ). run_lists M x s) (suc-add b c) ∙ lists_add M b c (step M s)

-- a count over a run: the first step's and those of the rest
pub takes_add : (M : Machine) (b c : ℕ) (s : Split) → run_takes M (b + c) s ≡ run_takes M b s + run_takes M c (run_lists M b s)
unfolding run_takes run_lists
takes_add M zero c s = ap (λ (x : ℕ). run_takes M x s) (zero-add c) ∙ sym (zero-add (run_takes M c s))
takes_add M (suc b) c s = ap (λ (x : ℕ). run_takes M x s) (suc-add b c) ∙ omega (arith, takes_add M b c (step M s))

pub entries_add : (M : Machine) (b c : ℕ) (s : Split) → run_entries M (b + c) s ≡ run_entries M b s + run_entries M c (run_lists M b s)
unfolding run_entries run_lists
entries_add M zero c s = ap (λ (x : ℕ). run_entries M x s) (zero-add c) ∙ sym (zero-add (run_entries M c s))
entries_add M (suc b) c s = ap (λ (x : ℕ). run_entries M x s) (suc-add b c) ∙ omega (arith, entries_add M b c (step M s))

-- budgets one after the other are one budget: the lists depend on the sum alone, and the counts add up
pub all-lists : (M : Machine) (bs : List ℕ) (s : Split) → all_lists M bs s ≡ run_lists M (total bs) s
unfolding all_lists total run_lists
all-lists M [] s = refl
all-lists M (b ∷ bs) s = all-lists M bs (run_lists M b s) ∙ sym (lists_add M b (total bs) s)

pub all-takes : (M : Machine) (bs : List ℕ) (s : Split) → all_takes M bs s ≡ run_takes M (total bs) s
unfolding all_takes total run_takes
all-takes M [] s = refl
all-takes M (b ∷ bs) s = ap (λ (x : ℕ). run_takes M b s + x) (all-takes M bs (run_lists M b s)) ∙ sym (takes_add M b (total bs) s)

pub all-entries : (M : Machine) (bs : List ℕ) (s : Split) → all_entries M bs s ≡ run_entries M (total bs) s
unfolding all_entries total run_entries
all-entries M [] s = refl
all-entries M (b ∷ bs) s = ap (λ (x : ℕ). run_entries M b s + x) (all-entries M bs (run_lists M b s)) ∙ sym (entries_add M b (total bs) s)

-- a step takes where something waits, and else changes nothing
pub step-takes : (M : Machine) (s : Split) → waiting M.size s ≡ true → (step M s ≡ take M s) × (step_takes M s ≡ 1) × (step_entries M s ≡ entries M s)
unfolding step step_takes step_entries pick
step-takes M s e = (rw e, rw e, rw e)

pub step_idle : (M : Machine) (s : Split) → waiting M.size s ≡ false → (step M s ≡ s) × (step_takes M s ≡ 0) × (step_entries M s ≡ 0)
unfolding step step_takes step_entries pick
step_idle M s e = (rw e, rw e, rw e)

pub run_idle : (M : Machine) (b : ℕ) (s : Split) → waiting M.size s ≡ false → run_lists M b s ≡ s
unfolding run_lists
run_idle M zero s e = refl
run_idle M (suc b) s e = ap (run_lists M b) (step_idle M s e).0 ∙ run_idle M b s e

pub idle_takes : (M : Machine) (b : ℕ) (s : Split) → waiting M.size s ≡ false → run_takes M b s ≡ 0
unfolding run_takes
idle_takes M zero s e = refl
idle_takes M (suc b) s e = omega (arith, (step_idle M s e).1, ap (run_takes M b) (step_idle M s e).0, idle_takes M b s e)

pub idle_entries : (M : Machine) (b : ℕ) (s : Split) → waiting M.size s ≡ false → run_entries M b s ≡ 0
unfolding run_entries
idle_entries M zero s e = refl
idle_entries M (suc b) s e = omega (arith, (step_idle M s e).2, ap (run_entries M b) (step_idle M s e).0, idle_entries M b s e)

-- the lists of one number for each state
abbrev pub Long : ℕ → Split → Type 0
Long n s = (length s.class ≡ n) × (length s.pending ≡ n)

pub take_long : (M : Machine) (s : Split) → Long M.size (take M s)
unfolding take take_by split_class split_pending
take_long M s = (tab-length M.size _, tab-length M.size _)

pub run_long : (M : Machine) (b : ℕ) (s : Split) → Long M.size s → Long M.size (run_lists M b s)
unfolding run_lists
run_long M zero s h = h
run_long M (suc b) s h =
    run_long M b (step M s) (by_test (waiting M.size s)
    (λ e. subst (Long M.size) (sym (step-takes M s e).0) (take_long M s))
    (λ e. subst (Long M.size) (sym (step_idle M s e).0) h))

-- a run makes no more takes than its budget has
pub takes_most : (M : Machine) (b : ℕ) (s : Split) → run_takes M b s ≤ b
unfolding run_takes
takes_most M zero s = omega arith
takes_most M (suc b) s = by (waiting M.size s) refl (takes_most M b (step M s))
  where
    by : (t : Bool) → waiting M.size s ≡ t → run_takes M b (step M s) ≤ b → step_takes M s + run_takes M b (step M s) ≤ suc b
    by true e h = omega (arith, (step-takes M s e).1)
    by false e h = omega (arith, (step_idle M s e).1)

-- where nothing waits every pending is 0
pub idle_pending : (n : ℕ) (s : Split) → waiting n s ≡ false → (q : ℕ) → q < n → at s.pending q ≡ 0
unfolding waiting
idle_pending n s e q l = elim (ℕ_discrete (at s.pending q) 0) [
  | yes h ↦ h
  | no u ↦ absurd (true≢false (sym ((any_iff n (λ q. not (eqb (at s.pending q) 0))).1 (q, l, ap not (ne_eqb (at s.pending q) 0 u))) ∙ e))
]

-- what waits is in the sum of pending
waits_sum : (n : ℕ) (s : Split) → waiting n s ≡ true → 0 < sum n (at s.pending)
unfolding waiting
waits_sum n s e =
    let (q, l, h) = (any_iff n (λ q. not (eqb (at s.pending q) 0))).0 e in
    omega (arith, term_le n (at s.pending) q l, eqb-false (at s.pending q) 0 (not-true _ h))

-- only class names wait, each with at most k signs
pending_most : (n k : ℕ) (s : Split) → WellFormed n k s → sum n (at s.pending) ≤ k * class_count n s.class
unfolding class_count pick
pending_most n k s w =
    let m : sum n (at s.pending) ≤ sum n (λ q. k * pick (eqb (at s.class q) q) 1 0) = sum_mono n _ _ one in
    omega (arith, sum_scale n k (λ q. pick (eqb (at s.class q) q) 1 0), ap (λ (x : ℕ). k * x) (count-sum n (λ q. eqb (at s.class q) q)))
  where
    one : (q : ℕ) → q < n → at s.pending q ≤ k * pick (eqb (at s.class q) q) 1 0
    one q l = elim (ℕ_discrete (at s.class q) q) [
      | yes e ↦ rw (eq-eqb (at s.class q) q e, mul-one k) (w.few q l)
      | no u ↦ omega (arith, w.none q l u)
    ]

class_most : (n : ℕ) (cs : List ℕ) → class_count n cs ≤ n
unfolding class_count
class_most n cs = count_most n _

module _ (M : Machine) (lawful : Lawful M) where
  step_keeps : (s : Split) → WellFormed M.size M.signs s → WellFormed M.size M.signs (step M s)
  step_keeps s w = by (waiting M.size s) refl
    where
      by : (t : Bool) → waiting M.size s ≡ t → WellFormed M.size M.signs (step M s)
      by true e = rw (step-takes M s e).0 (take_keeps M lawful s w e)
      by false e = rw (step_idle M s e).0 w

  step_balance : (s : Split) → WellFormed M.size M.signs s
      → step_takes M s + sum M.size (at (step M s).pending) + M.signs * class_count M.size s.class
      ≡ sum M.size (at s.pending) + M.signs * class_count M.size (step M s).class
  step_balance s w = by (waiting M.size s) refl
    where
      by : (t : Bool) → waiting M.size s ≡ t → step_takes M s + sum M.size (at (step M s).pending) + M.signs * class_count M.size s.class
          ≡ sum M.size (at s.pending) + M.signs * class_count M.size (step M s).class
      by true e = rw ((step-takes M s e).0, (step-takes M s e).1) (omega (arith, take_balance M lawful s w e))
      by false e = rw ((step_idle M s e).0, (step_idle M s e).1) (omega arith)

  pub run_keeps : (b : ℕ) (s : Split) → WellFormed M.size M.signs s → WellFormed M.size M.signs (run_lists M b s)
  unfolding run_lists
  run_keeps zero s w = w
  run_keeps (suc b) s w = run_keeps b (step M s) (step_keeps s w)

  pub run_balance : (b : ℕ) (s : Split) → WellFormed M.size M.signs s
      → run_takes M b s + sum M.size (at (run_lists M b s).pending) + M.signs * class_count M.size s.class
      ≡ sum M.size (at s.pending) + M.signs * class_count M.size (run_lists M b s).class
  unfolding run_lists run_takes
  run_balance zero s w = omega arith
  run_balance (suc b) s w = omega (arith, step_balance s w, run_balance b (step M s) (step_keeps s w))

  -- what waits after a budget has waited all the time, so every step was a take
  pub run_takes_all : (b : ℕ) (s : Split) → waiting M.size (run_lists M b s) ≡ true → run_takes M b s ≡ b
  unfolding run_lists run_takes
  run_takes_all zero s e = refl
  run_takes_all (suc b) s e = by (waiting M.size s) refl (run_takes_all b (step M s) e)
    where
      by : (t : Bool) → waiting M.size s ≡ t → run_takes M b (step M s) ≡ b → step_takes M s + run_takes M b (step M s) ≡ suc b
      by true f h = omega (arith, (step-takes M s f).1)
      by false f h =
          absurd (true≢false (sym e ∙ ap (waiting M.size) (ap (run_lists M b) (step_idle M s f).0 ∙ run_idle M b s f) ∙ f))

  -- from any well_formed lists n × k takes are enough
  pub run_ends : (b : ℕ) (s : Split) → WellFormed M.size M.signs s → M.size * M.signs ≤ b → waiting M.size (run_lists M b s) ≡ false
  run_ends b s w l = by (waiting M.size (run_lists M b s)) refl
    where
      by : (t : Bool) → waiting M.size (run_lists M b s) ≡ t → waiting M.size (run_lists M b s) ≡ false
      by false e = e
      by true e =
          let c : M.signs * class_count M.size (run_lists M b s).class ≤ M.signs * M.size = mul-le-mul_left M.signs (class_most M.size (run_lists M b s).class) in
          absurd
          (omega
          (arith, run_takes_all b s e, run_balance b s w, pending_most M.size M.signs s w, waits_sum M.size (run_lists M b s) e, mul_comm M.signs M.size))
