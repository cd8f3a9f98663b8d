-- What each call of the report says of a file that is right, in memory that is long enough; and the report made of that.
-- Rests on what the calls are said to leave, on demand 3 of the calls, and on the shrunk file not being longer.
use mathlib.Core.Path.{◌≡◌, refl, sym, ap, subst, ◌∙◌}
use mathlib.Core.List.{List, [], ◌∷◌, map}
use Prim.Native.Nat.{ℕ, ◌+◌, ◌-◌, ◌*◌, ◌≤◌}
use native.Mathlib.Nat.{add-zero, mul_comm, mul-le-mul_left}
use native.Mathlib.Decide.{dec_lt}
use native.Mathlib.Omega.{arith}
use borrow.Author.Tests.{le-ltb}
use lib.Dec.{eqb}
use lib.ListN.{length, get_or, take}
use Rattle.counting.specs.Lists.{at}
use Rattle.counting.specs.Least.{pick}
use Rattle.counting.proofs.Tallies.{count_most}
use Rattle.automaton.specs.Machine.{Machine}
use Rattle.automaton.specs.Layers.{classes, class_count, rounds}
use Rattle.automaton.specs.Quotient.{rows}
use Rattle.automaton.proofs.Alikes.{layer-length}
use Rattle.refining.specs.Fresh.{fresh}
use Rattle.refining.specs.Run.{run_takes, run_entries, all_lists, all_takes, all_entries, total}
use Rattle.refining.proofs.Demand.{whole_takes}
use Rattle.lending.specs.Memory.{cleared, written}
use Rattle.lending.proofs.Memories.{written_front}
use Rattle.table.specs.Answers.{Said, gives, refuses}
use Rattle.table.specs.Judging.{judged, states_of, signs_of, start_of, ◌and_then◌}
use Rattle.table.specs.Leaving.{Left, left}
use Rattle.table.specs.Rows.{Right, InRange}
use Rattle.table.specs.Encoding.{machine_of}
use Rattle.table.specs.Accepted.{Good}
use Rattle.table.specs.declared.answer.Sizes.{Sizes}
use Rattle.table.proofs.Leavings.{not_refused, file_given, refuses_not, left_said}
use Rattle.table.proofs.Refusals.{accepted_exactly}
use Rattle.layering.specs.Calls.{layers_of, layers_leave}
use Rattle.splitting.specs.StartCall.{start_leaves}
use Rattle.splitting.specs.RunCall.{allowed, run_leaves}
use Rattle.splitting.specs.Sequence.{Lent, after_start, after_run, after_runs, says_takes, says_entries, all_takes_said, all_entries_said, values, Kept3}
use Rattle.splitting.proofs.Demands.{calls_demand_3}
use Rattle.shrinking.specs.Shrunk.{shrunk}
use Rattle.shrinking.specs.Calls.{shrink_of, shrink_leaves}
use Rattle.shrinking.proofs.Promises.{shrunk_no_longer}
use Rattle.reporting.specs.Reports.{Reported, report_of}

-- a refused file is reported by its refusal
pub reported_refused : (file names : List ℕ) {number place : ℕ} → judged file ≡ refuses number place → Reported file (refuses number place) names
unfolding report_of ◌and_then◌
reported_refused file names e = record { answer = rw e; named = λ vs g. absurd (not_refused (sym g ∙ e)) }

allowed_full : allowed 65535 ≡ 65535
unfolding allowed pick
allowed_full = refl

-- the largest file has 65,015 bytes
most_bytes : (n k : ℕ) → InRange n k → 12 + n + 3 + 2 * (n * k) ≤ 65015
most_bytes n k r =
    let few : n ≤ 1024 = r.states_most in
    let most : n * k ≤ 32000 = r.nexts_most in
    elim (dec_lt k 32) [
      | yes h ↦ let low : k ≤ 31 = omega arith in omega (arith, mul-le-mul_left n low)
      | no h ↦ let high : 32 ≤ k = omega arith in omega (arith, mul-le-mul_left n high)
    ]

module _ (file : List ℕ) (right : Right file) where
  abbrev M : Machine
  M = machine_of file

  abbrev n : ℕ
  n = M.size

  range : InRange (states_of file) (signs_of file)
  range = right.fields.marks.sizes.range

  accepted : judged file ≡ gives (states_of file ∷ signs_of file ∷ start_of file ∷ [])
  accepted = (accepted_exactly file _).1 (right, refl)

  -- the layered call
  pub layers_said : (work result : List ℕ) {said : Said} {lent : List (List ℕ)} → 16384 ≤ length work → 1024 ≤ length result
      → left said lent ≡ layers_leave file work result
      → said ≡ gives (class_count (machine_of file).size (classes (machine_of file)) ∷ rounds (machine_of file) ∷ [])
  unfolding layers_leave layers_of
  layers_said work result w c e =
      let most : n ≤ 1024 = range.states_most in
      left_said
      (e
      ∙ file_given file (work ∷ result ∷ []) _ accepted
      ∙ refuses_not 11 (16 * n) (work ∷ result ∷ []) _ (le-ltb (length work) (16 * n) (omega arith))
      ∙ refuses_not 12 n (cleared (16 * n) work ∷ result ∷ []) _ (le-ltb (length result) n (omega arith)))

  -- the shrinking call
  pub shrink_said : (work out : List ℕ) {said : Said} {lent : List (List ℕ)} → 16384 ≤ length work → 65015 ≤ length out
      → left said lent ≡ shrink_leaves file work out
      → said ≡ gives (length (rows (machine_of file)) ∷ length (shrunk file) ∷ [])
  unfolding shrink_leaves shrink_of
  shrink_said work out w o e =
      let most : n ≤ 1024 = range.states_most in
      left_said
      (e
      ∙ file_given file (work ∷ out ∷ []) _ accepted
      ∙ refuses_not 11 (16 * n) (work ∷ out ∷ []) _ (le-ltb (length work) (16 * n) (omega arith))
      ∙ refuses_not 12 (length (shrunk file)) (cleared (16 * n) work ∷ out ∷ []) _
      (le-ltb (length out) (length (shrunk file)) (omega (arith, shrunk_no_longer file (_, accepted), right.ends, most_bytes (states_of file) (signs_of file) range))))

  -- a full splitting takes no more than the largest budget
  within : whole_takes M ≤ total (map allowed (65535 ∷ []))
  unfolding total class_count
  within =
      let few : class_count n (classes M) - 1 ≤ n = omega (arith, count_most n (λ q. eqb (at (classes M) q) q)) in
      omega (
        arith,
        allowed_full,
        mul-le-mul_left M.signs few,
        mul_comm M.signs n,
        range.nexts_most,
      )

  -- the fresh start and the run after it
  module _ (class pending work : List ℕ) (c : 1024 ≤ length class) (p : 1024 ≤ length pending) (w : 16384 ≤ length work) where
    abbrev lent : Lent
    lent = record { class = class; pending = pending; work = work }

    kept : Kept3 file (65535 ∷ []) lent
    kept =
        let most : n ≤ 1024 = range.states_most in
        calls_demand_3 file (65535 ∷ []) lent right (record { class = omega arith; pending = omega arith; work = omega arith })

    pub start_said : {said : Said} {slices : List (List ℕ)} → left said slices ≡ start_leaves file class pending → said ≡ gives []
    start_said e = ap (λ (x : Left). x.said) e ∙ kept.started

    module _ (class₁ pending₁ : List ℕ) {said₁ : Said} (e : left said₁ (class₁ ∷ pending₁ ∷ []) ≡ start_leaves file class pending) where
      abbrev began : Lent
      began = record { class = class₁; pending = pending₁; work = work }

      begun : after_start file lent ≡ began
      unfolding after_start
      begun = ap (λ (x : Left). record { class = get_or x.lent 0 []; pending = get_or x.lent 1 []; work = work }) (sym e)

      pub run_given : {number place : ℕ} {slices : List (List ℕ)} → left (refuses number place) slices ≡ run_leaves file 65535 class₁ pending₁ work → ⊥
      run_given r =
          let g = subst (λ (l : Lent). (vs : List ℕ) × ((run_leaves file 65535 l.class l.pending l.work).said ≡ gives vs)) begun kept.given.0 in
          not_refused (sym (ap (λ (x : Left). x.said) r ∙ g.1))

      module _ {takes looked : ℕ} (class₂ pending₂ work₂ : List ℕ) (r : left (gives (takes ∷ looked ∷ [])) (class₂ ∷ pending₂ ∷ work₂ ∷ []) ≡ run_leaves file 65535 class₁ pending₁ work) where
        takes_said : takes ≡ run_takes (machine_of file) 65535 (fresh (machine_of file))
        unfolding all_takes_said all_takes says_takes values
        takes_said =
            let s : takes ≡ says_takes file 65535 began = ap (λ (x : Left). at (values x.said) 0) r in
            let t : all_takes_said file (65535 ∷ []) began ≡ all_takes M (map allowed (65535 ∷ [])) (fresh M) = subst (λ (l : Lent). all_takes_said file (65535 ∷ []) l ≡ all_takes M (map allowed (65535 ∷ [])) (fresh M)) begun kept.takes in
            s ∙ sym (add-zero (says_takes file 65535 began)) ∙ t ∙ add-zero (run_takes M (allowed 65535) (fresh M)) ∙ ap (λ (b : ℕ). run_takes M b (fresh M)) allowed_full

        entries_said : looked ≡ run_entries (machine_of file) 65535 (fresh (machine_of file))
        unfolding all_entries_said all_entries says_entries values
        entries_said =
            let s : looked ≡ says_entries file 65535 began = ap (λ (x : Left). at (values x.said) 1) r in
            let t : all_entries_said file (65535 ∷ []) began ≡ all_entries M (map allowed (65535 ∷ [])) (fresh M) = subst (λ (l : Lent). all_entries_said file (65535 ∷ []) l ≡ all_entries M (map allowed (65535 ∷ [])) (fresh M)) begun kept.entries in
            s ∙ sym (add-zero (says_entries file 65535 began)) ∙ t ∙ add-zero (run_entries M (allowed 65535) (fresh M)) ∙ ap (λ (b : ℕ). run_entries M b (fresh M)) allowed_full

        names_left : take (machine_of file).size class₂ ≡ classes (machine_of file)
        unfolding after_runs after_run classes
        names_left =
            let s : class₂ ≡ (after_runs file (65535 ∷ []) began).class = ap (λ (x : Left). get_or x.lent 0 []) r in
            let t : (after_runs file (65535 ∷ []) began).class ≡ written (all_lists M (map allowed (65535 ∷ [])) (fresh M)).class class =
            subst (λ (l : Lent). (after_runs file (65535 ∷ []) l).class ≡ written (all_lists M (map allowed (65535 ∷ [])) (fresh M)).class class) begun kept.class
            in
            ap (take n) (s ∙ t ∙ ap (λ (xs : List ℕ). written xs class) (kept.demand.classes within)) ∙ written_front n (classes M) class (layer-length M (rounds M))

        -- the report of what the calls said
        pub reported_made : {z : Sizes} → Good file z → {m r count long : ℕ}
            → gives (m ∷ r ∷ []) ≡ gives (class_count (machine_of file).size (classes (machine_of file)) ∷ rounds (machine_of file) ∷ [])
            → gives (count ∷ long ∷ []) ≡ gives (length (rows (machine_of file)) ∷ length (shrunk file) ∷ [])
            → Reported file (gives (z.states ∷ z.signs ∷ z.start ∷ m ∷ r ∷ takes ∷ looked ∷ count ∷ [])) class₂
        unfolding report_of ◌and_then◌
        reported_made {z} g l s =
            let a : z.states ≡ states_of file = g.states in
            let b : z.signs ≡ signs_of file = g.signs in
            let d : z.start ≡ start_of file = g.start in
            record { answer = rw accepted (cc (takes_said, entries_said)); named = λ vs h. names_left }
