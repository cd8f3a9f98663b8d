-- The report on a table: its answer and all lent memory, for every input; and, where that memory is long enough for every file, what it says of the file.
use Rattle.std.specs.Prelude.{◌≡◌, List, [], ◌∷◌, ℕ, ◌≤◌, length, get_or, take, Result}
use Rattle.counting.specs.Lists.{at}
use Rattle.automaton.specs.Layers.{classes, class_count, rounds}
use Rattle.automaton.specs.Quotient.{rows}
use Rattle.refining.specs.Fresh.{fresh}
use Rattle.refining.specs.Run.{run_takes, run_entries}
use Rattle.table.specs.Answers.{Said, gives, said_by, when_given}
use Rattle.table.specs.Judging.{judged, states_of, signs_of, start_of, ◌and_then◌}
use Rattle.table.specs.Leaving.{Left, left, on_file}
use Rattle.table.specs.Encoding.{machine_of}
use Rattle.table.specs.declared.answer.Refusal.{Refusal}
use Rattle.layering.specs.Calls.{layers_leave}
use Rattle.splitting.specs.StartCall.{start_leaves}
use Rattle.splitting.specs.RunCall.{run_leaves}
use Rattle.splitting.specs.Sequence.{values}
use Rattle.shrinking.specs.Calls.{shrink_leaves}
use Rattle.reporting.specs.declared.Numbers.{Numbers}

-- the answer: n, k, start, m, r, takes, entries, rows; or the refusal
abbrev pub told : Result Numbers Refusal → Said
told = said_by (λ v. v.sizes.states ∷ v.sizes.signs ∷ v.sizes.start ∷ v.classes ∷ v.rounds ∷ v.takes ∷ v.entries ∷ v.rows ∷ [])

-- Lengths of lent memory that are enough for every file.
pub record Roomy (w c p o : ℕ) : Type 0 where
  pub work : 16384 ≤ w
  pub classes : 1024 ≤ c
  pub pending : 1024 ≤ p
  pub out : 65015 ≤ o

-- the file's refusal, or its sizes, the classes and rounds, takes and entries of a full splitting from fresh, and the rows of the shrunk file
unfoldable pub report_of : List ℕ → Said
report_of file =
    let M = machine_of file in
    judged file
    and_then gives
    (states_of file
    ∷ signs_of file
    ∷ start_of file
    ∷ class_count M.size (classes M)
    ∷ rounds M
    ∷ run_takes M 65535 (fresh M)
    ∷ run_entries M 65535 (fresh M)
    ∷ length (rows M)
    ∷ [])

-- What is reported of a file: that answer, and where it is accepted the class name of each state at the front of the class list.
pub record Reported (file : List ℕ) (said : Said) (names : List ℕ) : Type 0 where
  pub answer : said ≡ report_of file
  pub named : (vs : List ℕ) → judged file ≡ gives vs → take (states_of file) names ≡ classes (machine_of file)

-- a call that is made before the rest: where it refuses, that refusal and the lent slices as they then are
unfoldable pub first : Said → List (List ℕ) → Left → Left
first said lent rest = when_given said rest (left said lent)

-- The report in memory of any length: the file first, then the calls one after the other, each on what those before it left. The slices: work, classes, pending, out.
unfoldable pub report_leaves : List ℕ → List ℕ → List ℕ → List ℕ → List ℕ → Left
report_leaves file work names pending out =
    let layered = layers_leave file work names in
    let work₁ = get_or layered.lent 0 [] in
    let names₁ = get_or layered.lent 1 [] in
    let started = start_leaves file names₁ pending in
    let names₂ = get_or started.lent 0 [] in
    let pending₁ = get_or started.lent 1 [] in
    let ran = run_leaves file 65535 names₂ pending₁ work₁ in
    let names₃ = get_or ran.lent 0 [] in
    let pending₂ = get_or ran.lent 1 [] in
    let work₂ = get_or ran.lent 2 [] in
    let small = shrink_leaves file work₂ out in
    let work₃ = get_or small.lent 0 [] in
    let out₁ = get_or small.lent 1 [] in
    on_file file (work ∷ names ∷ pending ∷ out ∷ [])
    (first layered.said (work₁ ∷ names₁ ∷ pending ∷ out ∷ [])
    (first started.said (work₁ ∷ names₂ ∷ pending₁ ∷ out ∷ [])
    (first ran.said (work₂ ∷ names₃ ∷ pending₂ ∷ out ∷ [])
    (first small.said (work₃ ∷ names₃ ∷ pending₂ ∷ out₁ ∷ [])
    (left
    (gives
    (states_of file
    ∷ signs_of file
    ∷ start_of file
    ∷ at (values layered.said) 0
    ∷ at (values layered.said) 1
    ∷ at (values ran.said) 0
    ∷ at (values ran.said) 1
    ∷ at (values small.said) 0
    ∷ []))
    (work₃ ∷ names₃ ∷ pending₂ ∷ out₁ ∷ []))))))
