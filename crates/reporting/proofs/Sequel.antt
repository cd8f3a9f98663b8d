-- The ways out of the report, each with its facts: what is left by the calls that were made, in memory of any length; and what is reported of the file in memory
-- that is long enough, where all ways but two are shut. Rests on what each call says in such memory.
use mathlib.Core.Path.{◌≡◌, sym}
use mathlib.Core.List.{List, [], ◌∷◌}
use Prim.Native.Nat.{ℕ}
use native.Mathlib.Omega.{arith}
use lib.ListN.{length}
use Rattle.table.specs.Answers.{Said, gives, refusal, when_given}
use Rattle.table.specs.Judging.{judged}
use Rattle.table.specs.Leaving.{left, on_file}
use Rattle.table.specs.Accepted.{Good}
use Rattle.table.specs.declared.answer.Refusal.{Refusal}
use Rattle.table.specs.declared.answer.Sizes.{Sizes}
use Rattle.table.proofs.Leavings.{not_refused, file_refused}
use Rattle.table.proofs.Openings.{good_given}
use Rattle.layering.specs.Calls.{layers_leave}
use Rattle.layering.specs.declared.layers.Counts.{Counts}
use Rattle.splitting.specs.StartCall.{start_leaves}
use Rattle.splitting.specs.RunCall.{run_leaves}
use Rattle.splitting.specs.Sequence.{values}
use Rattle.splitting.specs.declared.runs.Tally.{Tally}
use Rattle.shrinking.specs.Calls.{shrink_leaves}
use Rattle.shrinking.specs.declared.shrinks.Size.{Size}
use Rattle.reporting.specs.Reports.{Roomy, Reported, first, report_leaves}
use Rattle.reporting.proofs.Answering.{reported_refused, layers_said, start_said, run_given, shrink_said, reported_made}

module _ (file work names pending out : List ℕ) where
  -- what the report owes at a way out
  abbrev pub Owed : Said → List ℕ → List ℕ → List ℕ → List ℕ → Type 0
  Owed said work' names' pending' out' =
      (left said (work' ∷ names' ∷ pending' ∷ out' ∷ []) ≡ report_leaves file work names pending out)
      × (Roomy (length work) (length names) (length pending) (length out) → Reported file said names')

  pub out_judged : (r : Refusal) → judged file ≡ refusal r → Owed (refusal r) work names pending out
  unfolding report_leaves
  out_judged r refused = (sym (file_refused file (work ∷ names ∷ pending ∷ out ∷ []) _ refused), λ room. reported_refused file names refused)

  module _ {z : Sizes} (g : Good file z) where
    pub out_layers : (r : Refusal) {work₁ names₁ : List ℕ} → left (refusal r) (work₁ ∷ names₁ ∷ []) ≡ layers_leave file work names → Owed (refusal r) work₁ names₁ pending out
    unfolding report_leaves on_file first when_given
    out_layers r l = (rw (good_given g, sym l), λ room. absurd (not_refused (sym (layers_said file g.right work names room.work room.classes l))))

    module _ (counts : Counts) {work₁ names₁ : List ℕ} (l : left (gives (counts.classes ∷ counts.rounds ∷ [])) (work₁ ∷ names₁ ∷ []) ≡ layers_leave file work names)
        (work_long : length work₁ ≡ length work) (names-long : length names₁ ≡ length names) where
      pub out_start : (r : Refusal) {names₂ pending₁ : List ℕ} → left (refusal r) (names₂ ∷ pending₁ ∷ []) ≡ start_leaves file names₁ pending → Owed (refusal r) work₁ names₂ pending₁ out
      unfolding report_leaves on_file first when_given
      out_start r s = (
        rw (good_given g, sym l, sym s),
        λ room. absurd (not_refused (sym (start_said file g.right names₁ pending work₁ (omega arith) room.pending (omega arith) s))),
      )

      module _ {names₂ pending₁ : List ℕ} (s : left (gives []) (names₂ ∷ pending₁ ∷ []) ≡ start_leaves file names₁ pending) where
        pub out_run : (r : Refusal) {names₃ pending₂ work₂ : List ℕ} → left (refusal r) (names₃ ∷ pending₂ ∷ work₂ ∷ []) ≡ run_leaves file 65535 names₂ pending₁ work₁ → Owed (refusal r) work₂ names₃ pending₂ out
        unfolding report_leaves on_file first when_given
        out_run r t = (
          rw (good_given g, sym l, sym s, sym t),
          λ room. absurd (run_given file g.right names₁ pending work₁ (omega arith) room.pending (omega arith) names₂ pending₁ s t),
        )

        module _ (tally : Tally) {names₃ pending₂ work₂ : List ℕ} (t : left (gives (tally.takes ∷ tally.entries ∷ [])) (names₃ ∷ pending₂ ∷ work₂ ∷ []) ≡ run_leaves file 65535 names₂ pending₁ work₁)
            (work-long₂ : length work₂ ≡ length work₁) where
          pub out_shrink : (r : Refusal) {work₃ out₁ : List ℕ} → left (refusal r) (work₃ ∷ out₁ ∷ []) ≡ shrink_leaves file work₂ out → Owed (refusal r) work₃ names₃ pending₂ out₁
          unfolding report_leaves on_file first when_given
          out_shrink r u = (
            rw (good_given g, sym l, sym s, sym t, sym u),
            λ room. absurd (not_refused (sym (shrink_said file g.right work₂ out (omega arith) room.out u))),
          )

          pub out_made : (size : Size) {work₃ out₁ : List ℕ} → left (gives (size.rows ∷ size.length ∷ [])) (work₃ ∷ out₁ ∷ []) ≡ shrink_leaves file work₂ out
              → Owed (gives (z.states ∷ z.signs ∷ z.start ∷ counts.classes ∷ counts.rounds ∷ tally.takes ∷ tally.entries ∷ size.rows ∷ [])) work₃ names₃ pending₂ out₁
          unfolding report_leaves on_file first when_given values
          out_made size u = (
            rw (good_given g, sym l, sym s, sym t, sym u, g.states, g.signs, g.start),
            λ room.
                reported_made file g.right names₁ pending work₁ (omega arith) room.pending (omega arith) names₂ pending₁ s names₃ pending₂ work₂ t g
                (layers_said file g.right work names room.work room.classes l)
                (shrink_said file g.right work₂ out (omega arith) room.out u),
          )
