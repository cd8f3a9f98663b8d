-- Demand 3 of the calls: a fresh start and runs with any budgets, on one lent memory, leave the lists and report the counts of the theorem; and a run of one take is the published take.
-- Rests on what the calls are said to leave, and on runs from well_formed lists.
use mathlib.Core.Path.{◌≡◌, refl, sym, ap, ap₂, subst, ◌∙◌}
use mathlib.Core.Bool.{true, false, ◌||◌}
use mathlib.Core.List.{List, [], ◌∷◌, map}
use Prim.Native.Nat.{ℕ, ◌+◌, ◌*◌, ◌≤◌}
use native.Mathlib.Nat.{add-zero, le_of_eq}
use native.Mathlib.Omega.{arith}
use borrow.Author.Tests.{le-ltb}
use lib.Dec.{ltb}
use lib.ListN.{length, get_or, take}
use Rattle.counting.specs.Lists.{at}
use Rattle.counting.specs.Least.{pick}
use Rattle.counting.proofs.Tabs.{tab-length}
use Rattle.automaton.specs.Machine.{Machine, Lawful}
use Rattle.automaton.proofs.Alikes.{layer-length}
use Rattle.refining.specs.Lists.{Split, WellFormed, waiting, ill_formed}
use Rattle.refining.specs.Fresh.{pending_of, fresh_of, fresh}
use Rattle.refining.specs.Take.{take as take_of, entries}
use Rattle.refining.specs.Run.{run_lists, run_takes, run_entries, all_lists, all_takes, all_entries}
use Rattle.refining.proofs.Keeping.{formed_iff}
use Rattle.refining.proofs.Freshness.{fresh-formed}
use Rattle.refining.proofs.Runs.{Long, step-takes, run_long, run_keeps}
use Rattle.refining.proofs.Demand.{demand_3}
use Rattle.lending.specs.Memory.{cleared, written}
use Rattle.lending.proofs.Memories.{cleared-length, written-length, written_front, written_over}
use Rattle.table.specs.Answers.{Said, gives}
use Rattle.table.specs.Rows.{Right}
use Rattle.table.specs.Leaving.{Left, left}
use Rattle.table.specs.Encoding.{machine_of}
use Rattle.table.proofs.Leavings.{file_given, refuses_not}
use Rattle.table.proofs.Refusals.{accepted_exactly}
use Rattle.table.proofs.Encodings.{machine_in_range}
use Rattle.splitting.specs.Work.{lists}
use Rattle.splitting.specs.StartCall.{start_of, start_leaves}
use Rattle.splitting.specs.RunCall.{allowed, ran_from, run_of, run_leaves}
use Rattle.splitting.specs.Sequence.{Lent, Roomy, after_start, after_run, after_runs, says_takes, says_entries, all_takes_said, all_entries_said, AllGiven, Kept3, values}

-- Well-formed lists stand at the front of memory that was lent, long enough; behind them all is as it was.
record Holds (M : Machine) (s : Split) (l₀ l : Lent) : Type 0 where
  long : Long M.size s
  formed : WellFormed M.size M.signs s
  room : Roomy M l₀
  class : l.class ≡ written s.class l₀.class
  pending : l.pending ≡ written s.pending l₀.pending
  work : length l.work ≡ length l₀.work

-- Runs from such memory: none is refused, and the lists and counts are those of the takes.
record Runs (file budgets : List ℕ) (s : Split) (l₀ l : Lent) : Type 0 where
  given : AllGiven file budgets l
  class : (after_runs file budgets l).class ≡ written (all_lists (machine_of file) (map allowed budgets) s).class l₀.class
  pending : (after_runs file budgets l).pending ≡ written (all_lists (machine_of file) (map allowed budgets) s).pending l₀.pending
  takes : all_takes_said file budgets l ≡ all_takes (machine_of file) (map allowed budgets) s
  entries : all_entries_said file budgets l ≡ all_entries (machine_of file) (map allowed budgets) s

fresh_long : (M : Machine) → Long M.size (fresh M)
unfolding fresh fresh_of pending_of
fresh_long M = (layer-length M 0, tab-length M.size _)

-- the takes of a budget of 1, where something waits
one_take : (M : Machine) (s : Split) (class pending work : List ℕ) → waiting M.size s ≡ true
    → ran_from M (allowed 1) s class pending work
    ≡ left (gives (1 ∷ entries M s ∷ [])) (written (take_of M s).class class ∷ written (take_of M s).pending pending ∷ cleared (16 * M.size) work ∷ [])
unfolding ran_from allowed pick run_lists run_takes run_entries
one_take M s class pending work waits = rw ((step-takes M s waits).0, (step-takes M s waits).1, (step-takes M s waits).2, add-zero (entries M s))

module _ (file : List ℕ) (right : Right file) where
  abbrev M : Machine
  M = machine_of file

  abbrev n : ℕ
  n = M.size

  lawful : Lawful M
  lawful = (machine_in_range file right).lawful

  wide : (class pending : List ℕ) → n ≤ length class → n ≤ length pending → (ltb (length class) n || ltb (length pending) n) ≡ false
  wide class pending c p = ap₂ ◌||◌ (le-ltb (length class) n c) (le-ltb (length pending) n p)

  -- a start with room is not refused
  start_given : (class pending : List ℕ) → n ≤ length class → n ≤ length pending
      → start_leaves file class pending ≡ left (gives []) (written (fresh M).class class ∷ written (fresh M).pending pending ∷ [])
  unfolding start_leaves start_of
  start_given class pending c p =
      file_given file (class ∷ pending ∷ []) _ ((accepted_exactly file _).1 (right, refl))
      ∙ refuses_not 12 n (class ∷ pending ∷ []) _ (wide class pending c p)

  -- a run with room, from well_formed lists, is not refused
  run_given : (budget : ℕ) (class pending work : List ℕ) → n ≤ length class → n ≤ length pending → 16 * n ≤ length work → WellFormed n M.signs (lists n class pending)
      → run_leaves file budget class pending work ≡ ran_from M (allowed budget) (lists n class pending) class pending work
  unfolding run_leaves run_of
  run_given budget class pending work c p w formed =
      let ill : ℕ = ill_formed n M.signs (lists n class pending) in
      file_given file (class ∷ pending ∷ work ∷ []) _ ((accepted_exactly file _).1 (right, refl))
      ∙ refuses_not 11 (16 * n) (class ∷ pending ∷ work ∷ []) _ (le-ltb (length work) (16 * n) w)
      ∙ refuses_not 12 n (class ∷ pending ∷ cleared (16 * n) work ∷ []) _ (wide class pending c p)
      ∙ refuses_not 13 ill (class ∷ pending ∷ work ∷ []) _ (le-ltb ill n (le_of_eq (sym ((formed_iff n M.signs (lists n class pending)).1 formed))))

  -- a run of one take is the published take
  pub run_one_take : (class pending work : List ℕ) → Roomy (machine_of file) (record { class = class; pending = pending; work = work })
      → WellFormed (machine_of file).size (machine_of file).signs (lists (machine_of file).size class pending)
      → waiting (machine_of file).size (lists (machine_of file).size class pending) ≡ true
      → run_leaves file 1 class pending work
      ≡ left (gives (1 ∷ entries (machine_of file) (lists (machine_of file).size class pending) ∷ []))
      (written (take_of (machine_of file) (lists (machine_of file).size class pending)).class class
      ∷ written (take_of (machine_of file) (lists (machine_of file).size class pending)).pending pending
      ∷ cleared (16 * (machine_of file).size) work
      ∷ [])
  run_one_take class pending work room formed waits =
      run_given 1 class pending work room.class room.pending room.work formed ∙ one_take M (lists n class pending) class pending work waits

  -- one run from held lists: what it says, and the lists that are held after it
  module _ (budget : ℕ) (s : Split) (l₀ l : Lent) (h : Holds M s l₀ l) where
    held : lists n l.class l.pending ≡ s
    held =
        ap₂ (λ (cs ps : List ℕ). record { class = cs; pending = ps })
        (ap (λ (xs : List ℕ). take n xs) h.class ∙ written_front n s.class l₀.class h.long.0)
        (ap (λ (xs : List ℕ). take n xs) h.pending ∙ written_front n s.pending l₀.pending h.long.1)

    run-from : run_leaves file budget l.class l.pending l.work ≡ ran_from M (allowed budget) s l.class l.pending l.work
    run-from =
        let c : length s.class ≡ n = h.long.0 in
        let p : length s.pending ≡ n = h.long.1 in
        let c₀ : n ≤ length l₀.class = h.room.class in
        let p₀ : n ≤ length l₀.pending = h.room.pending in
        run_given budget l.class l.pending l.work
        (omega (arith, ap length h.class, written-length s.class l₀.class (omega arith)))
        (omega (arith, ap length h.pending, written-length s.pending l₀.pending (omega arith)))
        (omega (arith, h.work, h.room.work))
        (subst (WellFormed n M.signs) (sym held) h.formed)
        ∙ ap (λ (t : Split). ran_from M (allowed budget) t l.class l.pending l.work) held

    says : (run_leaves file budget l.class l.pending l.work).said ≡ gives (run_takes M (allowed budget) s ∷ run_entries M (allowed budget) s ∷ [])
    unfolding ran_from
    says = ap (λ (x : Left). x.said) run-from

    takes_said : says_takes file budget l ≡ run_takes M (allowed budget) s
    unfolding says_takes values
    takes_said = ap (λ (x : Said). at (values x) 0) says

    entries_said : says_entries file budget l ≡ run_entries M (allowed budget) s
    unfolding says_entries values
    entries_said = ap (λ (x : Said). at (values x) 1) says

    leaves : (i : ℕ) → get_or (run_leaves file budget l.class l.pending l.work).lent i []
        ≡ get_or (written (run_lists M (allowed budget) s).class l.class ∷ written (run_lists M (allowed budget) s).pending l.pending ∷ cleared (16 * n) l.work ∷ []) i []
    unfolding ran_from
    leaves i = ap (λ (x : Left). get_or x.lent i []) run-from

    holds_on : Holds M (run_lists M (allowed budget) s) l₀ (after_run file budget l)
    unfolding after_run
    holds_on =
        let t : Split = run_lists M (allowed budget) s in
        let long : Long n t = run_long M (allowed budget) s h.long in
        record {
          long = long;
          formed = run_keeps M lawful (allowed budget) s h.formed;
          room = h.room;
          class = leaves 0 ∙ ap (written t.class) h.class ∙ written_over t.class s.class l₀.class (long.0 ∙ sym h.long.0);
          pending = leaves 1 ∙ ap (written t.pending) h.pending ∙ written_over t.pending s.pending l₀.pending (long.1 ∙ sym h.long.1);
          work = ap length (leaves 2) ∙ cleared-length (16 * n) l.work (omega (arith, h.work, h.room.work)) ∙ h.work;
        }

  -- runs, one after the other
  runs_from : (budgets : List ℕ) (s : Split) (l₀ l : Lent) → Holds M s l₀ l → Runs file budgets s l₀ l
  unfolding after_runs all_takes_said all_entries_said all_lists all_takes all_entries
  runs_from [] s l₀ l h = record { given = tt; class = h.class; pending = h.pending; takes = refl; entries = refl }
  runs_from (b ∷ bs) s l₀ l h =
      let r : Runs file bs (run_lists M (allowed b) s) l₀ (after_run file b l) = runs_from bs (run_lists M (allowed b) s) l₀ (after_run file b l) (holds_on b s l₀ l h) in
      record {
        given = ((_, says b s l₀ l h), r.given);
        class = r.class;
        pending = r.pending;
        takes = ap₂ ◌+◌ (takes_said b s l₀ l h) r.takes;
        entries = ap₂ ◌+◌ (entries_said b s l₀ l h) r.entries;
      }

  module _ (l : Lent) (room : Roomy M l) where
    -- after the fresh start the fresh lists are held
    starts : start_leaves file l.class l.pending ≡ left (gives []) (written (fresh M).class l.class ∷ written (fresh M).pending l.pending ∷ [])
    starts = start_given l.class l.pending room.class room.pending

    holds-fresh : Holds M (fresh M) l (after_start file l)
    unfolding after_start
    holds-fresh = record {
      long = fresh_long M;
      formed = fresh-formed M lawful;
      room = room;
      class = ap (λ (x : Left). get_or x.lent 0 []) starts;
      pending = ap (λ (x : Left). get_or x.lent 1 []) starts;
      work = refl;
    }

-- a fresh start and runs with any budgets keep demand 3
pub calls_demand_3 : (file budgets : List ℕ) (l : Lent) → Right file → Roomy (machine_of file) l → Kept3 file budgets l
calls_demand_3 file budgets l right room =
    let r : Runs file budgets (fresh (machine_of file)) l (after_start file l) = runs_from file right budgets (fresh (machine_of file)) l (after_start file l) (holds-fresh file right l room) in
    record {
      started = ap (λ (x : Left). x.said) (starts file right l room);
      given = r.given;
      class = r.class;
      pending = r.pending;
      takes = r.takes;
      entries = r.entries;
      demand = demand_3 (machine_of file) (machine_in_range file right).lawful (map allowed budgets);
    }
