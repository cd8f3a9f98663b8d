-- A fresh start and then a run with each of some budgets, on the same lent memory, which nothing else touches: by what each call is said to leave.
use Rattle.std.specs.Prelude.{◌≡◌, List, [], ◌∷◌, map, ℕ, ◌+◌, ◌*◌, ◌≤◌, length, get_or}
use Rattle.counting.specs.Lists.{at}
use Rattle.automaton.specs.Machine.{Machine}
use Rattle.refining.specs.Fresh.{fresh}
use Rattle.refining.specs.Run.{all_lists, all_takes, all_entries}
use Rattle.refining.proofs.Demand.{Demand3}
use Rattle.lending.specs.Memory.{written}
use Rattle.table.specs.Answers.{Said, gives, refuses}
use Rattle.table.specs.Encoding.{machine_of}
use Rattle.splitting.specs.StartCall.{start_leaves}
use Rattle.splitting.specs.RunCall.{allowed, run_leaves}

-- The lent memory: the class list, the pending list, the work slice.
pub record Lent : Type 0 where
  pub class : List ℕ
  pub pending : List ℕ
  pub work : List ℕ

-- long enough for a machine
pub record Roomy (M : Machine) (l : Lent) : Type 0 where
  pub class : M.size ≤ length l.class
  pub pending : M.size ≤ length l.pending
  pub work : 16 * M.size ≤ length l.work

-- after a fresh start
unfoldable pub after_start : List ℕ → Lent → Lent
after_start file l =
    let slices = (start_leaves file l.class l.pending).lent in
    record { class = get_or slices 0 []; pending = get_or slices 1 []; work = l.work }

-- after a run
unfoldable pub after_run : List ℕ → ℕ → Lent → Lent
after_run file budget l =
    let slices = (run_leaves file budget l.class l.pending l.work).lent in
    record { class = get_or slices 0 []; pending = get_or slices 1 []; work = get_or slices 2 [] }

-- after a run with each budget
unfoldable pub after_runs : List ℕ → List ℕ → Lent → Lent
after_runs file [] l = l
after_runs file (b ∷ bs) l = after_runs file bs (after_run file b l)

-- the values of an answer
unfoldable pub values : Said → List ℕ
values (gives vs) = vs
values (refuses number place) = []

-- what a run says: takes made, entries looked at
unfoldable pub says_takes : List ℕ → ℕ → Lent → ℕ
says_takes file budget l = at (values (run_leaves file budget l.class l.pending l.work).said) 0

unfoldable pub says_entries : List ℕ → ℕ → Lent → ℕ
says_entries file budget l = at (values (run_leaves file budget l.class l.pending l.work).said) 1

-- the sums over all runs
unfoldable pub all_takes_said : List ℕ → List ℕ → Lent → ℕ
all_takes_said file [] l = 0
all_takes_said file (b ∷ bs) l = says_takes file b l + all_takes_said file bs (after_run file b l)

unfoldable pub all_entries_said : List ℕ → List ℕ → Lent → ℕ
all_entries_said file [] l = 0
all_entries_said file (b ∷ bs) l = says_entries file b l + all_entries_said file bs (after_run file b l)

-- no run is refused
abbrev pub AllGiven : List ℕ → List ℕ → Lent → Type 0
AllGiven file [] l = Unit {0}
AllGiven file (b ∷ bs) l = ((vs : List ℕ) × ((run_leaves file b l.class l.pending l.work).said ≡ gives vs)) × AllGiven file bs (after_run file b l)

-- Demand 3 of the calls: the lists that they leave and the counts that they report are those of the theorem for the budgets, each counted as 65,535 at the most.
pub record Kept3 (file budgets : List ℕ) (l : Lent) : Type 0 where
  pub started : (start_leaves file l.class l.pending).said ≡ gives []
  pub given : AllGiven file budgets (after_start file l)
  pub class : (after_runs file budgets (after_start file l)).class ≡ written (all_lists (machine_of file) (map allowed budgets) (fresh (machine_of file))).class l.class
  pub pending : (after_runs file budgets (after_start file l)).pending ≡ written (all_lists (machine_of file) (map allowed budgets) (fresh (machine_of file))).pending l.pending
  pub takes : all_takes_said file budgets (after_start file l) ≡ all_takes (machine_of file) (map allowed budgets) (fresh (machine_of file))
  pub entries : all_entries_said file budgets (after_start file l) ≡ all_entries (machine_of file) (map allowed budgets) (fresh (machine_of file))
  pub demand : Demand3 (machine_of file) (map allowed budgets)
