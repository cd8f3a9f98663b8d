-- Runs: takes until the budget is used or nothing waits, with the takes made and the entries looked at; and budgets one after the other.
use Rattle.std.specs.Prelude.{List, [], ◌∷◌, ℕ, zero, suc, ◌+◌}
use Rattle.counting.specs.Least.{pick}
use Rattle.automaton.specs.Machine.{Machine}
use Rattle.refining.specs.Lists.{Split, waiting}
use Rattle.refining.specs.Take.{take, entries}

-- one take where something waits, else no change
unfoldable pub step : Machine → Split → Split
step M s =
    let t = take M s in
    pick (waiting M.size s) t s

-- the takes and the entries of one step
unfoldable pub step_takes : Machine → Split → ℕ
step_takes M s = pick (waiting M.size s) 1 0

unfoldable pub step_entries : Machine → Split → ℕ
step_entries M s =
    let e = entries M s in
    pick (waiting M.size s) e 0

-- the lists after a budget, the takes made and the entries looked at
unfoldable pub run_lists : Machine → ℕ → Split → Split
run_lists M zero s = s
run_lists M (suc b) s = run_lists M b (step M s)

unfoldable pub run_takes : Machine → ℕ → Split → ℕ
run_takes M zero s = 0
run_takes M (suc b) s = step_takes M s + run_takes M b (step M s)

unfoldable pub run_entries : Machine → ℕ → Split → ℕ
run_entries M zero s = 0
run_entries M (suc b) s = step_entries M s + run_entries M b (step M s)

-- budgets one after the other
unfoldable pub all_lists : Machine → List ℕ → Split → Split
all_lists M [] s = s
all_lists M (b ∷ bs) s = all_lists M bs (run_lists M b s)

unfoldable pub all_takes : Machine → List ℕ → Split → ℕ
all_takes M [] s = 0
all_takes M (b ∷ bs) s = run_takes M b s + all_takes M bs (run_lists M b s)

unfoldable pub all_entries : Machine → List ℕ → Split → ℕ
all_entries M [] s = 0
all_entries M (b ∷ bs) s = run_entries M b s + all_entries M bs (run_lists M b s)

-- the budgets' sum
unfoldable pub total : List ℕ → ℕ
total [] = 0
total (b ∷ bs) = b + total bs
