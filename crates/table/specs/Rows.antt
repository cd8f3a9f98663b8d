-- The paper's table of refusals, row by row: when each number from 1 to 8 is given, and at which place; and when a file is right.
use Rattle.std.specs.Prelude.{◌≡◌, ◌≢◌, ℕ, ◌+◌, ◌*◌, ◌≤◌, ◌<◌, List, [], ◌∷◌, length, get_or}
use Rattle.lending.specs.Pairs.{pair_at}
use Rattle.table.specs.Judging.{states_of, signs_of, start_of, end_of}

-- A field stands whole at a place: three bytes for its head, its tag, its length, and as many bytes for its body.
pub record Whole (file : List ℕ) (at tag size : ℕ) : Type 0 where
  pub headed : at + 3 ≤ length file
  pub tagged : get_or file at 0 ≡ tag
  pub sized : pair_at file (at + 1) ≡ size
  pub bodied : at + 3 + size ≤ length file

-- n is 1 to 1,024; k is 1 to 64; n × k is at most 32,000.
pub record InRange (n k : ℕ) : Type 0 where
  pub some_state : 0 < n
  pub states_most : n ≤ 1024
  pub some_sign : 0 < k
  pub signs_most : k ≤ 64
  pub nexts_most : n * k ≤ 32000

-- Field 1 is right: whole, in range, the start a state.
pub record SizesRight (file : List ℕ) : Type 0 where
  pub whole : Whole file 0 1 6
  pub range : InRange (states_of file) (signs_of file)
  pub start-in : start_of file < states_of file

-- Fields 1 and 2 are right: every mark is 0 or 1.
pub record MarksRight (file : List ℕ) : Type 0 where
  pub sizes : SizesRight file
  pub whole : Whole file 9 2 (states_of file)
  pub marks : (q : ℕ) → q < states_of file → get_or file (12 + q) 0 ≤ 1

-- Fields 1, 2 and 3 are right: every next state is a state.
pub record NextsRight (file : List ℕ) : Type 0 where
  pub marks : MarksRight file
  pub whole : Whole file (12 + states_of file) 3 (2 * (states_of file * signs_of file))
  pub nexts : (i : ℕ) → i < states_of file * signs_of file → pair_at file (12 + states_of file + 3 + 2 * i) < states_of file

-- The file is right: its three fields are, and nothing stands behind them.
pub record Right (file : List ℕ) : Type 0 where
  pub fields : NextsRight file
  pub ends : length file ≡ end_of (states_of file) (states_of file * signs_of file)

-- A field is due at a place, with the tag and length required of it: field 1 at the start, and each other once those before it are right.
pub data Due (file : List ℕ) : ℕ → ℕ → ℕ → Type 0 where
  first : Due file 0 1 6
  second : SizesRight file → Due file 9 2 (states_of file)
  third : MarksRight file → Due file (12 + states_of file) 3 (2 * (states_of file * signs_of file))

-- A due field is cut: fewer than 3 bytes are left for its head, or, its tag and length being right, fewer than its length for its body.
pub data Cut (file : List ℕ) (at tag size : ℕ) : Type 0 where
  head : length file < at + 3 → Cut file at tag size
  body : at + 3 ≤ length file → get_or file at 0 ≡ tag → pair_at file (at + 1) ≡ size → length file < at + 3 + size → Cut file at tag size

-- 1, at the file's length
abbrev pub Row1 : List ℕ → ℕ → Type 0
Row1 file place = (at : ℕ) × (tag : ℕ) × (size : ℕ) × Due file at tag size × Cut file at tag size × (place ≡ length file)

-- 2: the tag isn't the one due; at the tag
abbrev pub Row2 : List ℕ → ℕ → Type 0
Row2 file place = (tag : ℕ) × (size : ℕ) × Due file place tag size × (place + 3 ≤ length file) × (get_or file place 0 ≢ tag)

-- 3: bytes follow field 3; at the first of them
abbrev pub Row3 : List ℕ → ℕ → Type 0
Row3 file place = NextsRight file × (place ≡ end_of (states_of file) (states_of file * signs_of file)) × (place < length file)

-- 4: a length isn't the one required; at the length's first byte
abbrev pub Row4 : List ℕ → ℕ → Type 0
Row4 file place =
    (at : ℕ) × (tag : ℕ) × (size : ℕ) × Due file at tag size × (at + 3 ≤ length file) × (get_or file at 0 ≡ tag) × (pair_at file (at + 1) ≢ size) × (place ≡ at + 1)

-- 5: n, k or n × k outside its range; at 3
abbrev pub Row5 : List ℕ → ℕ → Type 0
Row5 file place = Whole file 0 1 6 × (InRange (states_of file) (signs_of file) → ⊥) × (place ≡ 3)

-- 6: start is n or more; at 7
abbrev pub Row6 : List ℕ → ℕ → Type 0
Row6 file place = Whole file 0 1 6 × InRange (states_of file) (signs_of file) × (states_of file ≤ start_of file) × (place ≡ 7)

-- 7: a mark is neither 0 nor 1; at the first such mark
abbrev pub Row7 : List ℕ → ℕ → Type 0
Row7 file place =
    (q : ℕ)
    × SizesRight file
    × Whole file 9 2 (states_of file)
    × (q < states_of file)
    × (1 < get_or file (12 + q) 0)
    × ((p : ℕ) → p < q → get_or file (12 + p) 0 ≤ 1)
    × (place ≡ 12 + q)

-- 8: a next state is n or more; at the first byte of the first such
abbrev pub Row8 : List ℕ → ℕ → Type 0
Row8 file place =
    (i : ℕ)
    × MarksRight file
    × Whole file (12 + states_of file) 3 (2 * (states_of file * signs_of file))
    × (i < states_of file * signs_of file)
    × (states_of file ≤ pair_at file (12 + states_of file + 3 + 2 * i))
    × ((j : ℕ) → j < i → pair_at file (12 + states_of file + 3 + 2 * j) < states_of file)
    × (place ≡ 12 + states_of file + 3 + 2 * i)

-- the paper's table: what stands behind each number, from 1 on
abbrev pub rows : List ℕ → ℕ → List (Type 0)
rows file place =
    Row1 file place
    ∷ Row2 file place
    ∷ Row3 file place
    ∷ Row4 file place
    ∷ Row5 file place
    ∷ Row6 file place
    ∷ Row7 file place
    ∷ Row8 file place
    ∷ []

-- the refusal of this number and place is the one to give
abbrev pub Given : List ℕ → ℕ → ℕ → Type 0
Given file number place = get_or (⊥ ∷ rows file place) number ⊥
