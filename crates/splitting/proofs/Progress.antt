-- A run of takes in rooms, so far: the lists of the run and its counts. Rests on the laws of runs.
use mathlib.Core.Path.{◌≡◌, refl, sym, ap, subst, ◌∙◌}
use mathlib.Core.Bool.{Bool, true, false, not, true≢false}
use mathlib.Core.List.{List}
use Prim.Native.Nat.{ℕ, ◌+◌, ◌*◌, ◌-◌, ◌≤◌, ◌<◌}
use native.Mathlib.Nat.{not-suc-le-zero}
use native.Mathlib.Omega.{arith}
use lib.Dec.{eqb}
use lib.ListN.{length}
use Rattle.counting.specs.Lists.{at}
use Rattle.counting.specs.Least.{pick}
use Rattle.counting.proofs.Cases.{by_test}
use Rattle.counting.proofs.Tallies.{any_iff, count_most}
use Rattle.automaton.specs.Machine.{Machine, Lawful}
use Rattle.refining.specs.Lists.{Split, WellFormed, waiting}
use Rattle.refining.specs.Take.{entries}
use Rattle.refining.specs.Run.{step, step_takes, step_entries, run_lists, run_takes, run_entries}
use Rattle.refining.proofs.Keeping.{take_keeps}
use Rattle.refining.proofs.Runs.{lists_add, takes_add, entries_add, step-takes, run_idle, idle_takes, idle_entries}
use Rattle.splitting.specs.declared.rooms.Rooms.{Rooms}
use Rattle.splitting.specs.Work.{lists_of, Same, Ready, Taken}
use Rattle.splitting.specs.Running.{Ran}

-- a run of one step
module _ (M : Machine) (s : Split) where
  one_lists : run_lists M 1 s ≡ step M s
  unfolding run_lists
  one_lists = refl

  one_takes : run_takes M 1 s ≡ step_takes M s
  unfolding run_takes
  one_takes = omega arith

  one_entries : run_entries M 1 s ≡ step_entries M s
  unfolding run_entries
  one_entries = omega arith

entries_few : (M : Machine) (s : Split) → entries M s ≤ M.size
unfolding entries
entries_few M s = count_most M.size _

pub looked_more : (M : Machine) (w w' : Rooms) (more : ℕ) → M.size ≤ 1024 → Taken M w w' more → more ≤ 1024
looked_more M w w' more few t = omega (arith, t.looks, entries_few M (lists_of w))

-- from where to look on: not past the bound, and none below waits
low_in : (split : Bool) (q n : ℕ) → q ≤ n → pick split 0 q ≤ n
unfolding pick
low_in true q n l = omega arith
low_in false q n l = l

none_below : (split : Bool) (q : ℕ) (pendings : List ℕ) → (split ≡ false → (p : ℕ) → p < q → at pendings p ≡ 0) → (p : ℕ) → p < pick split 0 q → at pendings p ≡ 0
unfolding pick
none_below true q pendings h p l = absurd (not-suc-le-zero l)
none_below false q pendings h p l = h refl p l

same_more : {w₀ w w' : Rooms} → Same w₀ w → Same w w' → Same w₀ w'
same_more d t = record {
  sizes = t.sizes ∙ d.sizes;
  firsts = t.firsts ∙ d.firsts;
  gones = t.gones ∙ d.gones;
  renamed = t.renamed ∙ d.renamed;
  leds = t.leds ∙ d.leds;
  touched = t.touched ∙ d.touched;
  classes = t.classes ∙ d.classes;
  pendings = t.pendings ∙ d.pendings;
}

-- After some takes, each of which was made: the lists of the run, its counts, and rooms ready for the next; no class below low waits.
pub record Progress (M : Machine) (w₀ w : Rooms) (takes looked low : ℕ) : Type 0 where
  pub reached : lists_of w ≡ run_lists M takes (lists_of w₀)
  pub takes_made : takes ≡ run_takes M takes (lists_of w₀)
  pub looks : looked ≡ run_entries M takes (lists_of w₀)
  pub looked_few : looked ≤ takes * 1024
  pub formed : WellFormed M.size M.signs (lists_of w)
  pub ready : Ready M.size w
  pub same : Same w₀ w
  pub low_in : low ≤ M.size
  pub idle : (p : ℕ) → p < low → at w.pendings.now p ≡ 0

module _ (M : Machine) (w₀ : Rooms) where
  abbrev n : ℕ
  n = M.size

  abbrev s₀ : Split
  s₀ = lists_of w₀

  pub progress_none : WellFormed n M.signs s₀ → Ready n w₀ → Progress M w₀ w₀ 0 0 0
  unfolding run_lists run_takes run_entries
  progress_none w r = record {
    reached = refl;
    takes_made = refl;
    looks = refl;
    looked_few = omega arith;
    formed = w;
    ready = r;
    same = record {
      sizes = refl;
      firsts = refl;
      gones = refl;
      renamed = refl;
      leds = refl;
      touched = refl;
      classes = refl;
      pendings = refl;
    };
    low_in = omega arith;
    idle = λ p l. absurd (not-suc-le-zero l);
  }

  module _ (w : Rooms) (takes looked low : ℕ) (d : Progress M w₀ w takes looked low) where
    abbrev s : Split
    s = lists_of w

    abbrev test : ℕ → Bool
    test q = not (eqb (at w.pendings.now q) 0)

    quiet : ((q : ℕ) → q < length w.pendings.now → test q ≡ false) → waiting n s ≡ false
    unfolding waiting
    quiet none =
        by_test (waiting n s)
        (λ t.
        let (q, l, h) = (any_iff n test).0 t in
        absurd (true≢false (sym h ∙ none q (omega (arith, d.ready.room.pendings)))))
        (λ t. t)

    -- nothing waits, with some of the budget left
    pub ran_idle : (budget : ℕ) → takes ≤ budget → ((q : ℕ) → q < length w.pendings.now → test q ≡ false) → Ran M budget w₀ w takes looked
    ran_idle budget l none =
        let i : waiting n (run_lists M takes s₀) ≡ false = subst (λ (t : Split). waiting n t ≡ false) d.reached (quiet none) in
        let rest : ℕ = budget - takes in
        let f : takes + rest ≡ budget = omega arith in
        subst (λ (b : ℕ). Ran M b w₀ w takes looked) f
        record {
          same = d.same;
          sized = d.ready.room;
          lists = d.reached ∙ sym (lists_add M takes rest s₀ ∙ run_idle M rest (run_lists M takes s₀) i);
          counts = (
            omega (arith, d.takes_made, takes_add M takes rest s₀, idle_takes M rest (run_lists M takes s₀) i),
            omega (arith, d.looks, entries_add M takes rest s₀, idle_entries M rest (run_lists M takes s₀) i),
          );
        }

    module _ (q : ℕ) (within : q < n) (waits : test q ≡ true) where
      awaits : waiting n s ≡ true
      unfolding waiting
      awaits = (any_iff n test).1 (q, within, waits)

      -- one take more
      pub progress_more : Lawful M → n ≤ 1024 → (w' : Rooms) (more : ℕ) → Taken M w w' more → (split : Bool) → (split ≡ false → (p : ℕ) → p < q → at w'.pendings.now p ≡ 0)
          → Progress M w₀ w' (takes + 1) (looked + more) (pick split 0 q)
      progress_more lawful few w' more t split still = record {
        reached = t.lists ∙ sym (step-takes M s awaits).0 ∙ ap (step M) d.reached ∙ sym (one_lists M (run_lists M takes s₀)) ∙ sym (lists_add M takes 1 s₀);
        takes_made = omega (arith, d.takes_made, takes_add M takes 1 s₀, one_takes M (run_lists M takes s₀), ap (step_takes M) d.reached, (step-takes M s awaits).1);
        looks = omega (arith, d.looks, entries_add M takes 1 s₀, one_entries M (run_lists M takes s₀), ap (step_entries M) d.reached, (step-takes M s awaits).2, t.looks);
        looked_few = omega (arith, d.looked_few, looked_more M w w' more few t);
        formed = subst (WellFormed n M.signs) (sym t.lists) (take_keeps M lawful s d.formed awaits);
        ready = t.ready;
        same = same_more d.same t.same;
        low_in = low_in split q n (omega arith);
        idle = none_below split q w'.pendings.now still;
      }
