-- The ways out of the run of takes, each with its facts. Rests on the run not looking at the marks.
use mathlib.Core.Path.{◌≡◌, refl, sym, ap, ap₂, ◌∙◌}
use mathlib.Core.Logic.{◌⊎◌, ⊎_elim}
use mathlib.Core.Bool.{Bool, true, false, not, ◌||◌, or-true}
use mathlib.Core.List.{List, [], ◌∷◌}
use Prim.Native.Nat.{ℕ, zero, suc, ◌+◌, ◌*◌, ◌≤◌, ◌<◌}
use native.Mathlib.Decide.{dec_lt}
use native.Mathlib.Omega.{arith}
use borrow.Author.Tests.{lt-ltb, le-ltb}
use lib.Dec.{ltb}
use lib.ListN.{length}
use Rattle.std.specs.Prelude.{Some, None}
use Rattle.counting.specs.Least.{pick, IsFirst}
use Rattle.counting.proofs.Leasts.{first_least, least_none}
use Rattle.automaton.specs.Machine.{Machine}
use Rattle.refining.specs.Lists.{Split, WellFormed, formed, ill_formed}
use Rattle.refining.specs.Take.{hits, take_by, due_hits, take as take_of, entries}
use Rattle.refining.specs.Run.{step, step_takes, step_entries, run_lists, run_takes, run_entries}
use Rattle.refining.proofs.Keeping.{formed_iff}
use Rattle.lending.specs.Memory.{cleared, written}
use Rattle.lending.proofs.Memories.{cleared_same}
use Rattle.table.specs.Answers.{gives, refuses}
use Rattle.table.specs.Judging.{judged}
use Rattle.table.specs.Leaving.{left}
use Rattle.table.specs.Encoding.{machine_in}
use Rattle.table.specs.Accepted.{Good}
use Rattle.table.specs.declared.answer.Sizes.{Sizes}
use Rattle.table.proofs.Leavings.{file_refused, file_given, refuses_here, refuses_not}
use Rattle.table.proofs.Openings.{good_given}
use Rattle.table.proofs.Handing.{marks_in, nexts_in, machine_is}
use Rattle.splitting.specs.Work.{lists, class_in, pending_in, lists_in}
use Rattle.splitting.specs.Running.{RanIn, PutIn}
use Rattle.splitting.specs.RunCall.{allowed, ran_from, run_of, run_leaves}
use Rattle.splitting.proofs.Copying.{full_long, full_beyond, full_lists}

pub run_refused : (file : List ℕ) (budget : ℕ) (class pending work : List ℕ) {number place : ℕ} → judged file ≡ refuses number place
    → left (refuses number place) (class ∷ pending ∷ work ∷ []) ≡ run_leaves file budget class pending work
unfolding run_leaves
run_refused file budget class pending work e = sym (file_refused file (class ∷ pending ∷ work ∷ []) _ e)

-- a run doesn't look at the marks
module _ (n k start : ℕ) (marks nexts : List ℕ) where
  abbrev pub marked : Machine
  marked = machine_in n k start marks nexts

  abbrev pub bare : Machine
  bare = machine_in n k start [] nexts

  step_bare : (s : Split) → (step bare s ≡ step marked s) × (step_takes bare s ≡ step_takes marked s) × (step_entries bare s ≡ step_entries marked s)
  unfolding step step_takes step_entries take_of take_by entries due_hits hits
  step_bare s = (refl, refl, refl)

  pub lists_bare : (b : ℕ) (s : Split) → run_lists bare b s ≡ run_lists marked b s
  unfolding run_lists
  lists_bare zero s = refl
  lists_bare (suc b) s = lists_bare b (step bare s) ∙ ap (run_lists marked b) (step_bare s).0

  pub takes_bare : (b : ℕ) (s : Split) → run_takes bare b s ≡ run_takes marked b s
  unfolding run_takes
  takes_bare zero s = refl
  takes_bare (suc b) s = ap₂ ◌+◌ (step_bare s).1 (takes_bare b (step bare s) ∙ ap (run_takes marked b) (step_bare s).0)

  entries_bare : (b : ℕ) (s : Split) → run_entries bare b s ≡ run_entries marked b s
  unfolding run_entries
  entries_bare zero s = refl
  entries_bare (suc b) s = ap₂ ◌+◌ (step_bare s).2 (entries_bare b (step bare s) ∙ ap (run_entries marked b) (step_bare s).0)

  -- what the takes leave in the slices: the lists put in, the takes made on them, and the lists copied out
  module _ (budget : ℕ) (class pending work mid full ran class' pending' : List ℕ) (takes looked : ℕ)
      (class_room : n ≤ length class) (pending_room : n ≤ length pending) (room : 16 * n ≤ length work)
      (c : PutIn class (6 * n) n work mid) (p : PutIn pending (7 * n) n mid full)
      (r : RanIn bare budget full ran takes looked)
      (class-out : class' ≡ written (class_in n ran) class) (pending-out : pending' ≡ written (pending_in n ran) pending) where
    abbrev s : Split
    s = lists n class pending

    begun : lists_in n full ≡ s
    begun = full_lists n class pending work mid full class_room pending_room (omega arith) c p

    reached : lists_in n ran ≡ run_lists marked budget s
    reached = r.lists ∙ ap (run_lists bare budget) begun ∙ lists_bare budget s

    class_left : class' ≡ written (run_lists marked budget s).class class
    class_left = class-out ∙ ap (λ (t : Split). written t.class class) reached

    pending_left : pending' ≡ written (run_lists marked budget s).pending pending
    pending_left = pending-out ∙ ap (λ (t : Split). written t.pending pending) reached

    work_left : cleared (16 * n) ran ≡ cleared (16 * n) work
    work_left =
        cleared_same (16 * n) ran work (r.long ∙ full_long n class pending work mid full class_room pending_room (omega arith) c p)
        (λ j l. r.beyond j (omega arith) ∙ full_beyond n class pending work mid full class_room pending_room (omega arith) c p j (omega arith))

    ran_left : left (gives (takes ∷ looked ∷ [])) (class' ∷ pending' ∷ cleared (16 * n) ran ∷ []) ≡ ran_from marked budget s class pending work
    unfolding ran_from
    ran_left =
        ap₂ left
        (ap₂ (λ (t e : ℕ). gives (t ∷ e ∷ [])) (r.counts.0 ∙ ap (run_takes bare budget) begun ∙ takes_bare budget s) (r.counts.1 ∙ ap (run_entries bare budget) begun ∙ entries_bare budget s))
        (ap₂ (λ (cs ps : List ℕ). cs ∷ ps ∷ cleared (16 * n) ran ∷ []) class_left pending_left
        ∙ ap (λ (w : List ℕ). written (run_lists marked budget s).class class ∷ written (run_lists marked budget s).pending pending ∷ w ∷ []) work_left)

pub allowed_most : (budget : ℕ) → allowed budget ≤ 65535
unfolding allowed pick
allowed_most budget = elim (dec_lt 65535 budget) [
  | yes l ↦ rw (lt-ltb 65535 budget l) (omega arith)
  | no u ↦ rw (le-ltb 65535 budget (omega arith)) (omega arith)
]

-- lists with no state where a rule fails are well formed
pub well_formed : (n k : ℕ) (s : Split) → IsFirst n (λ q. not (formed k s q)) None → WellFormed n k s
unfolding ill_formed
well_formed n k s none = (formed_iff n k s).0 (least_none n _ none)

module _ (file : List ℕ) (z : Sizes) (g : Good file z) (budget : ℕ) (class pending work : List ℕ) where
  abbrev handed : Machine
  handed = machine_in z.states z.signs z.start (marks_in file z) (nexts_in file z)

  given : run_leaves file budget class pending work ≡ run_of handed budget class pending work
  unfolding run_leaves
  given = file_given file (class ∷ pending ∷ work ∷ []) _ (good_given g) ∙ ap (λ (M : Machine). run_of M budget class pending work) (sym (machine_is file z g))

  pub run_narrow : length work < 16 * z.states → left (refuses 11 (16 * z.states)) (class ∷ pending ∷ work ∷ []) ≡ run_leaves file budget class pending work
  unfolding run_of
  run_narrow l = sym (given ∙ refuses_here 11 (16 * z.states) (class ∷ pending ∷ work ∷ []) _ (lt-ltb (length work) (16 * z.states) l))

  module _ (room : 16 * z.states ≤ length work) where
    pub run_short : (length class < z.states) ⊎ (length pending < z.states)
        → left (refuses 12 z.states) (class ∷ pending ∷ cleared (16 * z.states) work ∷ []) ≡ run_leaves file budget class pending work
    unfolding run_of
    run_short h =
        sym
        (given
        ∙ refuses_not 11 (16 * z.states) (class ∷ pending ∷ work ∷ []) _ (le-ltb (length work) (16 * z.states) room)
        ∙ refuses_here 12 z.states (class ∷ pending ∷ cleared (16 * z.states) work ∷ []) _ (short h))
      where
        short : (length class < z.states) ⊎ (length pending < z.states) → (ltb (length class) z.states || ltb (length pending) z.states) ≡ true
        short =
            ⊎_elim
            (λ l. ap (λ (t : Bool). t || ltb (length pending) z.states) (lt-ltb (length class) z.states l))
            (λ l. ap (λ (t : Bool). ltb (length class) z.states || t) (lt-ltb (length pending) z.states l) ∙ or-true (ltb (length class) z.states))

    module _ (class_room : z.states ≤ length class) (pending_room : z.states ≤ length pending) where
      wide : (ltb (length class) z.states || ltb (length pending) z.states) ≡ false
      wide = ap₂ ◌||◌ (le-ltb (length class) z.states class_room) (le-ltb (length pending) z.states pending_room)

      pub run_ill : {ill : ℕ} → IsFirst z.states (λ q. not (formed z.signs (lists z.states class pending) q)) (Some ill)
          → left (refuses 13 ill) (class ∷ pending ∷ work ∷ []) ≡ run_leaves file budget class pending work
      unfolding run_of ill_formed
      run_ill {ill} first =
          let e : ill_formed z.states z.signs (lists z.states class pending) ≡ ill = first_least ill first in
          ap (λ (i : ℕ). left (refuses 13 i) (class ∷ pending ∷ work ∷ [])) (sym e)
          ∙ sym
          (given
          ∙ refuses_not 11 (16 * z.states) (class ∷ pending ∷ work ∷ []) _ (le-ltb (length work) (16 * z.states) room)
          ∙ refuses_not 12 z.states (class ∷ pending ∷ cleared (16 * z.states) work ∷ []) _ wide
          ∙ refuses_here 13 (ill_formed z.states z.signs (lists z.states class pending)) (class ∷ pending ∷ work ∷ []) _ (lt-ltb _ z.states (omega (arith, first.0))))

      pub run_made : IsFirst z.states (λ q. not (formed z.signs (lists z.states class pending) q)) None
          → {nexts mid full ran class' pending' work' : List ℕ} {takes looked allow : ℕ}
          → PutIn class (6 * z.states) z.states work mid
          → PutIn pending (7 * z.states) z.states mid full
          → nexts ≡ nexts_in file z
          → allow ≡ allowed budget
          → RanIn (machine_in z.states z.signs z.start [] nexts) allow full ran takes looked
          → class' ≡ written (class_in z.states ran) class
          → pending' ≡ written (pending_in z.states ran) pending
          → work' ≡ cleared (16 * z.states) ran
          → left (gives (takes ∷ looked ∷ [])) (class' ∷ pending' ∷ work' ∷ []) ≡ run_leaves file budget class pending work
      unfolding run_of ill_formed
      run_made none {class' = class'} {pending'} {takes = takes} {looked} c p x b r e f w =
          ap (λ (w : List ℕ). left (gives (takes ∷ looked ∷ [])) (class' ∷ pending' ∷ w ∷ [])) w
          ∙ ran_left z.states z.signs z.start (marks_in file z) (nexts_in file z) (allowed budget) class pending work _ _ _ class' pending' takes looked class_room pending_room room c p (rw (x, b) at r) e f
          ∙ sym
          (given
          ∙ refuses_not 11 (16 * z.states) (class ∷ pending ∷ work ∷ []) _ (le-ltb (length work) (16 * z.states) room)
          ∙ refuses_not 12 z.states (class ∷ pending ∷ cleared (16 * z.states) work ∷ []) _ wide
          ∙ refuses_not 13 (ill_formed z.states z.signs (lists z.states class pending)) (class ∷ pending ∷ work ∷ []) _ (le-ltb _ z.states (omega (arith, least_none z.states _ none))))
