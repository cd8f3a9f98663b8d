-- The three demands, of what the calls say and leave, for every file. What each call says and leaves is one definition (`layers_leave` and the like); n, k and the
-- machine M are those of the file.
use Rattle.std.specs.Prelude.{◌≡◌, ◌≢◌, ◌⊎◌, ◌↔◌, List, [], ◌∷◌, ℕ, ◌*◌, ◌≤◌, ◌<◌, length}
use Rattle.counting.specs.Lists.{at}
use Rattle.automaton.specs.Words.{Inseparable}
use Rattle.automaton.specs.Layers.{classes, class_count, rounds}
use Rattle.automaton.specs.Telling.{Telling, telling, alike, apart, Tells}
use Rattle.automaton.specs.Quotient.{rows}
use Rattle.refining.specs.Lists.{ill_formed}
use Rattle.lending.specs.Memory.{cleared, written}
use Rattle.table.specs.Answers.{gives, refuses}
use Rattle.table.specs.Judging.{judged, states_of, signs_of}
use Rattle.table.specs.Rows.{Given}
use Rattle.table.specs.Encoding.{machine_of}
use Rattle.table.specs.Leaving.{Left, left}
use Rattle.running.specs.Running.{bad_sign, ran_word, ran_line}
use Rattle.layering.specs.Calls.{layers_leave}
use Rattle.telling.specs.Calls.{tell_leaves, spoken}
use Rattle.splitting.specs.Work.{lists}
use Rattle.splitting.specs.StartCall.{start_leaves}
use Rattle.splitting.specs.RunCall.{run_leaves}
use Rattle.splitting.specs.Sequence.{Lent, Roomy, Kept3}
use Rattle.shrinking.specs.Shrunk.{shrunk, Accepted, Promised}
use Rattle.shrinking.specs.Calls.{shrink_leaves}

-- no refusal
abbrev pub Nothing : ℕ → ℕ → Type 0
Nothing number place = ⊥

-- this refusal exactly where its case holds, and else what comes after it
abbrev pub Else : Type 0 → ℕ → ℕ → (ℕ → ℕ → Type 0) → ℕ → ℕ → Type 0
Else Case m p After number place = (Case × (number ≡ m) × (place ≡ p)) ⊎ ((Case → ⊥) × After number place)

-- the file's own refusals, 1 to 8, and of an accepted file what comes after them
abbrev pub OfFile : List ℕ → (ℕ → ℕ → Type 0) → ℕ → ℕ → Type 0
OfFile file After number place = Given file number place ⊎ (Accepted file × After number place)

-- the signs of a telling word; none where there is no word
abbrev pub signs_told : Telling → ℕ
signs_told alike = 0
signs_told (apart w) = length w

-- A call refuses exactly as listed. On 1 to 11 and 13 all lent memory stays as it was; on 12 it is as given last.
pub record Refuses (Listed : ℕ → ℕ → Type 0) (before short : List (List ℕ)) (after : Left) : Type 0 where
  pub exactly : (number place : ℕ) → (after.said ≡ refuses number place) ↔ Listed number place
  pub kept : (number place : ℕ) → after.said ≡ refuses number place → number ≢ 12 → after.lent ≡ before
  pub room : (place : ℕ) → after.said ≡ refuses 12 place → after.lent ≡ short

-- Demand 1. Each call refuses exactly as listed, in that order, by number and place, and what each refusal leaves is fixed: on 12 only the first 16 × n numbers of a
-- work slice are 0.
pub record Demand1 (file : List ℕ) : Type 0 where
  pub judge : (number place : ℕ) → (judged file ≡ refuses number place) ↔ Given file number place
  pub word : (word : List ℕ) (number place : ℕ)
      → (ran_word file word ≡ refuses number place) ↔ OfFile file (Else (bad_sign (signs_of file) word < length word) 10 (bad_sign (signs_of file) word) Nothing) number place
  pub line : (line : List ℕ) (number place : ℕ) → (ran_line file line ≡ refuses number place) ↔ OfFile file (Else (signs_of file ≢ 47) 9 0 Nothing) number place
  pub layers : (work result : List ℕ)
      → Refuses
      (OfFile file (Else (length work < 16 * states_of file) 11 (16 * states_of file) (Else (length result < states_of file) 12 (states_of file) Nothing)))
      (work ∷ result ∷ [])
      (cleared (16 * states_of file) work ∷ result ∷ [])
      (layers_leave file work result)
  pub tell : (p q : ℕ) (work word : List ℕ)
      → Refuses
      (OfFile file
      (Else (states_of file ≤ p) 10 0
      (Else (states_of file ≤ q) 10 1
      (Else (length work < 16 * states_of file) 11 (16 * states_of file)
      (Else (length word < signs_told (telling (machine_of file) p q)) 12 (signs_told (telling (machine_of file) p q)) Nothing)))))
      (work ∷ word ∷ [])
      (cleared (16 * states_of file) work ∷ word ∷ [])
      (tell_leaves file p q work word)
  pub start : (class pending : List ℕ)
      → Refuses
      (OfFile file (Else ((length class < states_of file) ⊎ (length pending < states_of file)) 12 (states_of file) Nothing))
      (class ∷ pending ∷ [])
      (class ∷ pending ∷ [])
      (start_leaves file class pending)
  pub run : (budget : ℕ) (class pending work : List ℕ)
      → Refuses
      (OfFile file
      (Else (length work < 16 * states_of file) 11 (16 * states_of file)
      (Else ((length class < states_of file) ⊎ (length pending < states_of file)) 12 (states_of file)
      (Else (ill_formed (states_of file) (signs_of file) (lists (states_of file) class pending) < states_of file) 13 (ill_formed (states_of file) (signs_of file) (lists (states_of file) class pending)) Nothing))))
      (class ∷ pending ∷ work ∷ [])
      (class ∷ pending ∷ cleared (16 * states_of file) work ∷ [])
      (run_leaves file budget class pending work)
  pub shrink : (work out : List ℕ)
      → Refuses
      (OfFile file (Else (length work < 16 * states_of file) 11 (16 * states_of file) (Else (length out < length (shrunk file)) 12 (length (shrunk file)) Nothing)))
      (work ∷ out ∷ [])
      (cleared (16 * states_of file) work ∷ out ∷ [])
      (shrink_leaves file work out)

-- Demand 2, of an accepted file. With room the layered call writes the class names, and two states share one exactly when no word is accepted from one of them only;
-- the shrinking call writes the shrunk file, of which all is as promised; and for two states the telling call says alike exactly when they share a class, or else
-- writes the shortest word that tells them apart, first in sign order among those.
pub record Demand2 (file : List ℕ) : Type 0 where
  pub one_class : (p q : ℕ) → p < states_of file → q < states_of file → (at (classes (machine_of file)) p ≡ at (classes (machine_of file)) q) ↔ Inseparable (machine_of file) p q
  pub layered : (work result : List ℕ) → 16 * states_of file ≤ length work → states_of file ≤ length result
      → layers_leave file work result
      ≡ left (gives (class_count (states_of file) (classes (machine_of file)) ∷ rounds (machine_of file) ∷ [])) (cleared (16 * states_of file) work ∷ written (classes (machine_of file)) result ∷ [])
  pub promised : Promised file
  pub shrinks : (work out : List ℕ) → 16 * states_of file ≤ length work → length (shrunk file) ≤ length out
      → shrink_leaves file work out ≡ left (gives (length (rows (machine_of file)) ∷ length (shrunk file) ∷ [])) (cleared (16 * states_of file) work ∷ written (shrunk file) out ∷ [])
  pub told_alike : (p q : ℕ) → p < states_of file → q < states_of file → (telling (machine_of file) p q ≡ alike) ↔ Inseparable (machine_of file) p q
  pub told_apart : (p q : ℕ) (w : List ℕ) → p < states_of file → q < states_of file → telling (machine_of file) p q ≡ apart w → Tells (machine_of file) p q w
  pub tells : (p q : ℕ) (work word : List ℕ) → p < states_of file → q < states_of file → 16 * states_of file ≤ length work
      → tell_leaves file p q work word ≡ spoken (telling (machine_of file) p q) (cleared (16 * states_of file) work) word

-- All three. Demand 3, of an accepted file: a fresh start and then a run with each of any budgets, on lent memory with room.
pub record Demands (file : List ℕ) : Type 0 where
  pub one : Demand1 file
  pub two : Accepted file → Demand2 file
  pub three : Accepted file → (budgets : List ℕ) (l : Lent) → Roomy (machine_of file) l → Kept3 file budgets l
