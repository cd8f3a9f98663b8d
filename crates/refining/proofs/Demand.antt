-- Demand 3, as one theorem: from a fresh start, under budgets cut anyhow.
use mathlib.Core.Path.{◌≡◌, refl, sym, ap, ap₂, ◌∙◌}
use mathlib.Core.Logic.{◌↔◌}
use mathlib.Core.Bool.{Bool, true, false}
use mathlib.Core.List.{List}
use Prim.Native.Nat.{ℕ, zero, suc, ◌+◌, ◌-◌, ◌*◌, min, ◌≤◌, ◌<◌}
use native.Mathlib.Nat.{add-zero, add_assoc, le_antisymm, mul-add, mul-one}
use native.Mathlib.Omega.{arith}
use borrow.Author.Tests.{le-ltb, eq-eqb}
use lib.ListN.{length}
use lib.Seq.{ext_get_or}
use Rattle.counting.specs.Lists.{at}
use Rattle.counting.proofs.Tabs.{tab-length}
use Rattle.counting.proofs.Tallies.{count_some}
use Rattle.counting.proofs.Sums.{sum_zero}
use Rattle.counting.specs.Sums.{sum, log2}
use Rattle.automaton.specs.Machine.{Machine, Lawful}
use Rattle.automaton.specs.Words.{Same}
use Rattle.automaton.specs.Layers.{rounds, classes, class_count}
use Rattle.automaton.proofs.Walks.{same_refl}
use Rattle.automaton.proofs.Alikes.{layer-length}
use Rattle.automaton.proofs.Settling.{classes-in, classes_member, classes-least}
use Rattle.refining.specs.Lists.{Split, WellFormed, waiting}
use Rattle.refining.specs.Fresh.{fresh, fresh_of}
use Rattle.refining.specs.Take.{taken_class, taken_sign, take, take_by, split_class, entries}
use Rattle.refining.specs.Run.{step, step_entries, run_lists, run_takes, run_entries, all_lists, all_takes, all_entries, total}
use Rattle.refining.proofs.Correctness.{Separates, step_separates, settled_same}
use Rattle.refining.proofs.Halving.{counted, Bounded, looked, step_bounded, step_looked, bounded_looked}
use Rattle.refining.proofs.Points.{class_of, hit, taken-sign, entries-hits}
use Rattle.refining.proofs.Keeping.{take_keeps}
use Rattle.refining.proofs.Published.{waits_in, take_guarantees}
use Rattle.refining.proofs.Freshness.{fresh-formed, fresh_separates, fresh_bounded, fresh_balance}
use Rattle.refining.proofs.Runs.{step-takes, step_idle, idle_pending, takes_add, takes_most, all-lists, all-takes, all-entries, run_balance, run_takes_all, run_ends}

-- the takes of a whole splitting: k × (m − 1), m being the classes
abbrev pub whole_takes : Machine → ℕ
whole_takes M = M.signs * (class_count M.size (classes M) - 1)

-- What stands after budgets from fresh.
pub record Demand3 (M : Machine) (bs : List ℕ) : Type 0 where
  -- the lists are those after as many takes in one go
  pub lists : all_lists M bs (fresh M) ≡ run_lists M (total bs) (fresh M)
  -- every take is made until k × (m − 1) are
  pub takes : all_takes M bs (fresh M) ≡ min (total bs) (whole_takes M)
  pub entries : all_entries M bs (fresh M) ≤ M.size * M.signs * log2 M.size
  -- from then on nothing waits, and the lists are the classes; before, something waits
  pub settled : whole_takes M ≤ total bs → waiting M.size (all_lists M bs (fresh M)) ≡ false
  pub classes : whole_takes M ≤ total bs → (all_lists M bs (fresh M)).class ≡ classes M
  pub unsettled : total bs < whole_takes M → waiting M.size (all_lists M bs (fresh M)) ≡ true

-- What holds after any takes from fresh: the invariants, and the entries as takes of classes.
record Along (M : Machine) (s : Split) (seen : ℕ) : Type 0 where
  long : length s.class ≡ M.size
  formed : WellFormed M.size M.signs s
  separates : Separates M (class_of s) (waits_in s)
  taken : ℕ → ℕ → ℕ
  bounded : Bounded M (class_of s) (waits_in s) taken
  looks : looked M taken ≡ seen

one_less : (k c : ℕ) → 0 < c → k * (c - 1) + k ≡ k * c
one_less k c h = omega (arith, mul-add k (c - 1) 1, mul-one k, ap (λ (x : ℕ). k * x) (let e : c - 1 + 1 ≡ c = omega arith in e))

module _ (M : Machine) (lawful : Lawful M) where
  along_fresh : Along M (fresh M) 0
  unfolding fresh fresh_of looked
  along_fresh = record {
    long = layer-length M 0;
    formed = fresh-formed M lawful;
    separates = fresh_separates M lawful;
    taken = λ t b. 0;
    bounded = fresh_bounded M lawful;
    looks = sum_zero M.size _ (λ x l. sum_zero M.signs _ (λ b m. refl));
  }

  take_long : (s : Split) → length (take M s).class ≡ M.size
  unfolding take take_by split_class
  take_long s = tab-length M.size _

  along_take : (s : Split) (seen : ℕ) → waiting M.size s ≡ true → Along M s seen → Along M (take M s) (seen + entries M s)
  unfolding hit
  along_take s seen e h =
      let q : ℕ = taken_class M.size s in
      let a : ℕ = taken_sign M.size s in
      let g = take_guarantees M lawful s h.formed e in
      record {
        long = take_long s;
        formed = take_keeps M lawful s h.formed e;
        separates = step_separates M lawful q a g h.separates;
        taken = counted (class_of s) q a h.taken;
        bounded = step_bounded M lawful q a h.taken g h.bounded;
        looks = step_looked M lawful (class_of s) q a h.taken (taken-sign M lawful s h.formed e)
            ∙ ap₂ ◌+◌ h.looks (sym (entries-hits M lawful s h.formed e));
      }

  along_step : (s : Split) (seen : ℕ) → Along M s seen → Along M (step M s) (seen + step_entries M s)
  along_step s seen h = by (waiting M.size s) refl
    where
      by : (t : Bool) → waiting M.size s ≡ t → Along M (step M s) (seen + step_entries M s)
      by true e = rw ((step-takes M s e).0, (step-takes M s e).2) (along_take s seen e h)
      by false e = rw ((step_idle M s e).0, (step_idle M s e).2, add-zero seen) h

  along_run : (b : ℕ) (s : Split) (seen : ℕ) → Along M s seen → Along M (run_lists M b s) (seen + run_entries M b s)
  unfolding run_lists run_entries
  along_run zero s seen h = rw (add-zero seen) h
  along_run (suc b) s seen h = rw (← add_assoc seen (step_entries M s) (run_entries M b (step M s))) (along_run b (step M s) (seen + step_entries M s) (along_step s seen h))

  along : (b : ℕ) → Along M (run_lists M b (fresh M)) (0 + run_entries M b (fresh M))
  along b = along_run b (fresh M) 0 along_fresh

  -- where nothing waits the lists are the classes
  idle_classes : (s : Split) (seen : ℕ) → Along M s seen → waiting M.size s ≡ false → s.class ≡ classes M
  unfolding classes waits_in
  idle_classes s seen h e = ext_get_or 0 s.class (classes M) (h.long ∙ sym (layer-length M (rounds M))) (λ x l. one x (omega (arith, h.long)))
    where
      same : (x y : ℕ) → x < M.size → y < M.size → (class_of s x ≡ class_of s y) ↔ Same M x y
      same = settled_same M lawful h.separates (λ x b l m. le-ltb b (at s.pending (class_of s x)) (omega (arith, idle_pending M.size s e (class_of s x) (omega (arith, h.formed.low x l)))))

      one : (x : ℕ) → x < M.size → class_of s x ≡ at (classes M) x
      one x l =
          let d : ℕ = at (classes M) x in
          let k : d < M.size = classes-in M lawful x l in
          let m : class_of s x < M.size = omega (arith, h.formed.low x l) in
          le_antisymm (omega (arith, (same d x k l).1 (classes_member M lawful x l), h.formed.low d k))
          (classes-least M lawful (class_of s x) x m l ((same (class_of s x) x m l).0 (h.formed.named x l)))

  -- the account of a run from fresh
  account : (b : ℕ) → run_takes M b (fresh M) + sum M.size (at (run_lists M b (fresh M)).pending) + M.signs ≡ M.signs * class_count M.size (run_lists M b (fresh M)).class
  account b = omega (arith, run_balance M lawful b (fresh M) (fresh-formed M lawful), fresh_balance M lawful)

  some_class : 0 < class_count M.size (classes M)
  unfolding class_count
  some_class =
      let l : at (classes M) 0 ≤ 0 = classes-least M lawful 0 0 lawful.some_state lawful.some_state (same_refl M 0) in
      count_some M.size _ 0 lawful.some_state (eq-eqb (at (classes M) 0) 0 (omega arith))

  -- a run that has ended has made all takes
  ended_takes : (b : ℕ) → waiting M.size (run_lists M b (fresh M)) ≡ false → run_takes M b (fresh M) ≡ whole_takes M
  ended_takes b e =
      let s : Split = run_lists M b (fresh M) in
      let c : s.class ≡ classes M = idle_classes s _ (along b) e in
      omega
      (arith, account b, sum_zero M.size (at s.pending) (idle_pending M.size s e), ap (λ (cs : List ℕ). M.signs * class_count M.size cs) c, one_less M.signs (class_count M.size (classes M)) some_class)

  -- one that has not has not
  open_takes : (b : ℕ) → waiting M.size (run_lists M b (fresh M)) ≡ true → b < whole_takes M
  unfolding run_takes
  open_takes b e =
      let m : ℕ = M.size * M.signs in
      let s : Split = run_lists M b (fresh M) in
      let f : waiting M.size (run_lists M (b + suc m) (fresh M)) ≡ false = run_ends M lawful (b + suc m) (fresh M) (fresh-formed M lawful) (omega arith) in
      omega (arith, ended_takes (b + suc m) f, takes_add M b (suc m) (fresh M), run_takes_all M lawful b (fresh M) e, (step-takes M s e).1)

pub demand_3 : (M : Machine) → Lawful M → (bs : List ℕ) → Demand3 M bs
demand_3 M lawful bs = record {
  lists = all-lists M bs (fresh M);
  takes = all-takes M bs (fresh M) ∙ by (waiting M.size (run_lists M b (fresh M))) refl;
  entries = rw (all-entries M bs (fresh M)) (omega (arith, (along M lawful b).looks, bounded_looked M lawful (along M lawful b).taken (along M lawful b).bounded));
  settled = settled;
  classes = λ l. rw (all-lists M bs (fresh M)) (idle_classes M lawful (run_lists M b (fresh M)) _ (along M lawful b) (rw (all-lists M bs (fresh M)) at (settled l)));
  unsettled = λ l. rw (all-lists M bs (fresh M)) (waits l (waiting M.size (run_lists M b (fresh M))) refl);
}
  where
    b : ℕ
    b = total bs

    by : (t : Bool) → waiting M.size (run_lists M b (fresh M)) ≡ t → run_takes M b (fresh M) ≡ min b (whole_takes M)
    by true e = omega (arith, open_takes M lawful b e, run_takes_all M lawful b (fresh M) e)
    by false e = omega (arith, ended_takes M lawful b e, takes_most M b (fresh M))

    rests : whole_takes M ≤ b → (t : Bool) → waiting M.size (run_lists M b (fresh M)) ≡ t → waiting M.size (run_lists M b (fresh M)) ≡ false
    rests l true e = absurd (omega (arith, open_takes M lawful b e))
    rests l false e = e

    waits : b < whole_takes M → (t : Bool) → waiting M.size (run_lists M b (fresh M)) ≡ t → waiting M.size (run_lists M b (fresh M)) ≡ true
    waits l true e = e
    waits l false e = absurd (omega (arith, ended_takes M lawful b e, takes_most M b (fresh M)))

    settled : whole_takes M ≤ b → waiting M.size (all_lists M bs (fresh M)) ≡ false
    settled l = rw (all-lists M bs (fresh M)) (rests l (waiting M.size (run_lists M b (fresh M))) refl)
