-- What opening an answer tells: of a step that gave a field, that the field stands whole there; of a refusal, that it is what was said.
use mathlib.Core.Path.{◌≡◌, refl, sym, ap, ap₂, subst₂, ◌∙◌}
use mathlib.Core.List.{List, [], ◌∷◌}
use Prim.Native.Nat.{ℕ, ◌+◌, ◌*◌, ◌≤◌}
use native.Mathlib.Omega.{arith}
use lib.ListN.{length}
use Rattle.std.specs.Prelude.{Result, Ok, Err}
use Rattle.table.specs.Answers.{Said, gives, refusal, told, told_part}
use Rattle.table.specs.Judging.{field_due, sizes_due, marks_due, nexts_due, judged, states_of, signs_of, start_of}
use Rattle.table.specs.Rows.{Whole, InRange, SizesRight, MarksRight, NextsRight, Right}
use Rattle.table.specs.Accepted.{Good}
use Rattle.table.specs.declared.answer.Part.{Part}
use Rattle.table.specs.declared.answer.Refusal.{Refusal}
use Rattle.table.specs.declared.answer.Sizes.{Sizes}
use Rattle.table.proofs.Dues.{gives_whole, whole}
use Rattle.table.proofs.Outcomes.{right_of_lem, sizes, marks, nexts}
use Rattle.table.proofs.Refusals.{sizes_right, nexts_right, accepted_exactly}

pub record Opened (file : List ℕ) (at tag size : ℕ) (p : Part) : Type 0 where
  pub stands : Whole file at tag size
  pub place : p.place ≡ at + 3
  pub length : p.length ≡ size

pub opened : {file : List ℕ} {at tag size : ℕ} (p : Part) → told_part (Ok p) ≡ field_due file at tag size → Opened file at tag size p
opened {file} {at} {tag} {size} p t =
    let w : Whole file at tag size = gives_whole file at tag size (sym t) in
    let v : gives (p.place ∷ p.length ∷ []) ≡ gives ((at + 3) ∷ size ∷ []) = t ∙ whole file at tag size w in
    record { stands = w; place = cc; length = cc }

pub closed : {s : Result Part Refusal} {r : Refusal} {x : Said} → s ≡ Err r → told_part s ≡ x → x ≡ refusal r
closed e t = sym t ∙ ap told_part e

-- of sizes that were given: they are the file's, and field 1 is right
pub record Sized (file : List ℕ) (z : Sizes) : Type 0 where
  pub states : z.states ≡ states_of file
  pub signs : z.signs ≡ signs_of file
  pub start : z.start ≡ start_of file
  pub range : InRange z.states z.signs
  pub right : SizesRight file

pub sized : {file : List ℕ} (z : Sizes) → told (Ok z) ≡ sizes_due file → Sized file z
sized {file} z t =
    let r : SizesRight file = right_of_lem (sizes file) (sym t) in
    let v : gives (z.states ∷ z.signs ∷ z.start ∷ []) ≡ gives (states_of file ∷ signs_of file ∷ start_of file ∷ []) = t ∙ sizes_right file r in
    let n : z.states ≡ states_of file = cc in
    let k : z.signs ≡ signs_of file = cc in
    record { states = n; signs = k; start = cc; range = subst₂ InRange (sym n) (sym k) r.range; right = r }

-- of a second field that was given: fields 1 and 2 are right
pub marked : {file : List ℕ} {z : Sizes} (p : Part) → Sized file z → told_part (Ok p) ≡ marks_due file z.states → MarksRight file
marked {file} p g t = right_of_lem (marks file g.right) (ap (marks_due file) (sym g.states) ∙ sym t)

-- of a third field that was given: where it stands, and all three fields are right
pub record Nexted (file : List ℕ) (p : Part) : Type 0 where
  pub place : p.place ≡ 12 + states_of file + 3
  pub length : p.length ≡ 2 * (states_of file * signs_of file)
  pub right : NextsRight file

pub nexted : {file : List ℕ} {z : Sizes} (p : Part) → Sized file z → MarksRight file → told_part (Ok p) ≡ nexts_due file z.states (z.states * z.signs) → Nexted file p
nexted {file} {z} p g m t =
    let d : nexts_due file (states_of file) (states_of file * signs_of file) ≡ gives (p.place ∷ p.length ∷ []) =
    sym (ap₂ (λ (x y : ℕ). nexts_due file x (x * y)) g.states g.signs) ∙ sym t
    in
    let r : NextsRight file = right_of_lem (nexts file m) d in
    let v : gives (p.place ∷ p.length ∷ []) ≡ gives ((12 + states_of file + 3) ∷ 2 * (states_of file * signs_of file) ∷ []) = sym d ∙ nexts_right file r in
    record { place = cc; length = cc; right = r }

-- with nothing behind them the file is accepted with its sizes
pub accepted : {file : List ℕ} {z : Sizes} {p : Part} → Sized file z → Nexted file p → length file ≤ p.place + p.length → told (Ok z) ≡ judged file
accepted {file} {z} g t l =
    sym
    ((accepted_exactly file _).1 (
      record { fields = t.right; ends = omega (arith, t.place, t.length, t.right.whole.bodied) },
      ap₂ ◌∷◌ g.states (ap₂ ◌∷◌ g.signs (ap (λ (x : ℕ). x ∷ []) g.start)),
    ))

-- an accepting judgement tells that
pub good : {file : List ℕ} (z : Sizes) → told (Ok z) ≡ judged file → Good file z
good {file} z t =
    let a = (accepted_exactly file (z.states ∷ z.signs ∷ z.start ∷ [])).0 (sym t) in
    let v : (z.states ∷ z.signs ∷ z.start ∷ []) ≡ (states_of file ∷ signs_of file ∷ start_of file ∷ []) = a.1 in
    let n : z.states ≡ states_of file = cc in
    let k : z.signs ≡ signs_of file = cc in
    let r : Right file = a.0 in
    record { states = n; signs = k; start = cc; range = subst₂ InRange (sym n) (sym k) r.fields.marks.sizes.range; right = r }

-- a good file is accepted
pub good_given : {file : List ℕ} {z : Sizes} → Good file z → judged file ≡ gives (states_of file ∷ signs_of file ∷ start_of file ∷ [])
good_given {file} g = (accepted_exactly file _).1 (g.right, refl)
