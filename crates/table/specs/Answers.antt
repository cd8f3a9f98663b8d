-- Answers as the paper has them: values, or the number and place of a refusal; and what a call answers taken to that.
use Rattle.std.specs.Prelude.{ℕ, List, [], ◌∷◌, Result, Ok, Err}
use Rattle.table.specs.declared.answer.Kind.{Kind}
use Rattle.table.specs.declared.answer.Kind.TheVariants.{Short, Tag, Behind, Length, Range, Start, Mark, Next, Line, Asked, Work, Room, Lists}
use Rattle.table.specs.declared.answer.Refusal.{Refusal}
use Rattle.table.specs.declared.answer.Sizes.{Sizes}
use Rattle.table.specs.declared.answer.Part.{Part}

-- An answer: the paper's values, or the refusal's number and place.
pub data Said : Type 0 where
  gives : List ℕ → Said
  refuses : ℕ → ℕ → Said

-- one thing where an answer gives, another where it refuses
unfoldable pub when_given {ℓ} : {A : Type ℓ} → Said → A → A → A
when_given (gives vs) a b = a
when_given (refuses number place) a b = b

-- the number of each refusal in the paper's table
abbrev pub number_of : Kind → ℕ
number_of Short = 1
number_of Tag = 2
number_of Behind = 3
number_of Length = 4
number_of Range = 5
number_of Start = 6
number_of Mark = 7
number_of Next = 8
number_of Line = 9
number_of Asked = 10
number_of Work = 11
number_of Room = 12
number_of Lists = 13

-- a refusal: its number and its place
abbrev pub refusal : Refusal → Said
refusal r = refuses (number_of r.kind) r.place

-- what a call answers: the values of what it gives, or the refusal
abbrev pub said_by : {A : Type 0} → (A → List ℕ) → Result A Refusal → Said
said_by values (Ok x) = gives (values x)
said_by values (Err r) = refusal r

-- the judgement of a file: n, k and start, or the refusal
abbrev pub told : Result Sizes Refusal → Said
told = said_by (λ z. z.states ∷ z.signs ∷ z.start ∷ [])

-- a reading step: where the field's body starts and its length, or the refusal
abbrev pub told_part : Result Part Refusal → Said
told_part = said_by (λ p. p.place ∷ p.length ∷ [])
