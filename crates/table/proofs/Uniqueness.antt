-- Each statement leaves one answer: the definitions that take answers to the paper's numbers are one to one, and a part handed back is one part.
use mathlib.Core.Path.{◌≡◌, refl, sym, ap, ◌∙◌}
use mathlib.Core.List.{List, [], ◌∷◌}
use Prim.Native.Nat.{ℕ}
use native.Mathlib.Omega.{arith}
use lib.ListN.{get_or}
use denote.Ref.{Bor}
use Rattle.table.specs.declared.answer.Kind.{Kind}
use Rattle.table.specs.declared.answer.Kind.TheVariants.{Short, Tag, Behind, Length, Range, Start, Mark, Next, Line, Asked, Work, Room, Lists}
use Rattle.table.specs.declared.answer.Refusal.{Refusal}
use Rattle.table.specs.declared.answer.Sizes.{Sizes}
use Rattle.std.specs.Prelude.{Result, Ok, Err}
use Rattle.table.specs.Answers.{number_of, refusal, said_by, told}
use Rattle.table.specs.Judging.{judged}
use Rattle.table.specs.Bodies.{FieldOf}

-- the kind of each number
kind_of : ℕ → Kind
kind_of n = get_or (Short ∷ Short ∷ Tag ∷ Behind ∷ Length ∷ Range ∷ Start ∷ Mark ∷ Next ∷ Line ∷ Asked ∷ Work ∷ Room ∷ Lists ∷ []) n Short

kind_back : (kind : Kind) → kind_of (number_of kind) ≡ kind
unfolding kind_of
kind_back Short = refl
kind_back Tag = refl
kind_back Behind = refl
kind_back Length = refl
kind_back Range = refl
kind_back Start = refl
kind_back Mark = refl
kind_back Next = refl
kind_back Line = refl
kind_back Asked = refl
kind_back Work = refl
kind_back Room = refl
kind_back Lists = refl

pub kind_unique : (k l : Kind) → number_of k ≡ number_of l → k ≡ l
kind_unique k l e = sym (kind_back k) ∙ ap kind_of e ∙ kind_back l

pub refusal_unique : (r s : Refusal) → refusal r ≡ refusal s → r ≡ s
refusal_unique r s e =
    let m : number_of r.kind ≡ number_of s.kind = cc in
    let p : r.place ≡ s.place = cc in
    λ i. record { kind = kind_unique r.kind s.kind m i; place = p i }

-- what a call answers is told one to one, where its values are
pub said_unique : {A : Type 0} (values : A → List ℕ) → ((x y : A) → values x ≡ values y → x ≡ y) → (r s : Result A Refusal) → said_by values r ≡ said_by values s → r ≡ s
said_unique values one (Ok x) (Ok y) e = ap Ok (one x y cc)
said_unique values one (Ok x) (Err s) e = let z : ◌≡◌ {A = ℕ} 0 1 = cc in absurd (omega arith)
said_unique values one (Err r) (Ok y) e = let z : ◌≡◌ {A = ℕ} 0 1 = cc in absurd (omega arith)
said_unique values one (Err r) (Err s) e = ap Err (refusal_unique r s e)

pub told_unique : (r s : Result Sizes Refusal) → told r ≡ told s → r ≡ s
told_unique = said_unique _ one
  where
    one : (y z : Sizes) → (y.states ∷ y.signs ∷ y.start ∷ []) ≡ (z.states ∷ z.signs ∷ z.start ∷ []) → y ≡ z
    one y z e =
        let n : y.states ≡ z.states = cc in
        let k : y.signs ≡ z.signs = cc in
        let s : y.start ≡ z.start = cc in
        λ i. record { states = n i; signs = k i; start = s i }

-- `judge` has one answer
pub judge_unique : (file : List ℕ) (r s : Result Sizes Refusal) → told r ≡ judged file → told s ≡ judged file → r ≡ s
judge_unique file r s e f = told_unique r s (e ∙ sym f)

-- `field` has one answer: the bytes and where they stand
pub field_unique : (file : Bor (List ℕ)) (number : ℕ) (r s : Bor (List ℕ)) → FieldOf file number r → FieldOf file number s → (r.now ≡ s.now) × (r.ref_ptr ≡ s.ref_ptr)
field_unique file number r s e f =
    let b : r.ref_ptr.0 ≡ s.ref_ptr.0 = e.block ∙ sym f.block in
    let o : r.ref_ptr.1 ≡ s.ref_ptr.1 = e.stands ∙ sym f.stands in
    (e.bytes ∙ sym f.bytes, λ i. (b i, o i))
