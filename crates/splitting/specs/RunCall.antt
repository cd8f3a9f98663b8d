-- The run of takes: its answer and all lent memory, for every input.
use Rattle.std.specs.Prelude.{◌||◌, List, [], ◌∷◌, ℕ, ◌*◌, ltb, length, Result}
use Rattle.counting.specs.Least.{pick}
use Rattle.automaton.specs.Machine.{Machine}
use Rattle.refining.specs.Lists.{Split, ill_formed}
use Rattle.refining.specs.Run.{run_lists, run_takes, run_entries}
use Rattle.lending.specs.Memory.{cleared, written}
use Rattle.table.specs.Answers.{Said, gives, said_by}
use Rattle.table.specs.declared.answer.Refusal.{Refusal}
use Rattle.table.specs.Leaving.{Left, left, on_file, refusing}
use Rattle.table.specs.Encoding.{machine_of}
use Rattle.splitting.specs.Work.{lists}
use Rattle.splitting.specs.declared.runs.Tally.{Tally}

-- the answer of a run: takes made and entries looked at, or the refusal
abbrev pub told_run : Result Tally Refusal → Said
told_run = said_by (λ tally. tally.takes ∷ tally.entries ∷ [])

-- the takes that a budget allows: a larger one counts as 65,535
unfoldable pub allowed : ℕ → ℕ
allowed budget = pick (ltb 65535 budget) 65535 budget

-- what is left by takes from these lists
unfoldable pub ran_from : Machine → ℕ → Split → List ℕ → List ℕ → List ℕ → Left
ran_from M budget s class pending work =
    left (gives (run_takes M budget s ∷ run_entries M budget s ∷ []))
    (written (run_lists M budget s).class class ∷ written (run_lists M budget s).pending pending ∷ cleared (16 * M.size) work ∷ [])

-- a run on a machine: 11, 12, 13, then the takes
unfoldable pub run_of : Machine → ℕ → List ℕ → List ℕ → List ℕ → Left
run_of M budget class pending work =
    refusing (ltb (length work) (16 * M.size)) 11 (16 * M.size) (class ∷ pending ∷ work ∷ [])
    (refusing (ltb (length class) M.size || ltb (length pending) M.size) 12 M.size (class ∷ pending ∷ cleared (16 * M.size) work ∷ [])
    (refusing (ltb (ill_formed M.size M.signs (lists M.size class pending)) M.size) 13 (ill_formed M.size M.signs (lists M.size class pending)) (class ∷ pending ∷ work ∷ [])
    (ran_from M (allowed budget) (lists M.size class pending) class pending work)))

-- of a file: the file first
unfoldable pub run_leaves : List ℕ → ℕ → List ℕ → List ℕ → List ℕ → Left
run_leaves file budget class pending work = on_file file (class ∷ pending ∷ work ∷ []) (run_of (machine_of file) budget class pending work)
