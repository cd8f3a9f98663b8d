-- The judgement of a file, in the paper's order: in each field head, tag, length, body, contents; field after field; then what follows.
use Rattle.std.specs.Prelude.{ℕ, ◌+◌, ◌*◌, Bool, not, ◌||◌, List, [], ◌∷◌, length, get_or, ltb, leb, eqb}
use Rattle.counting.specs.Least.{pick, least}
use Rattle.lending.specs.Pairs.{pair_at}
use Rattle.table.specs.Answers.{Said, gives, refuses}

infixr 20 ◌and_then◌
-- the first refusal stands; where there is none, the last answer
unfoldable pub ◌and_then◌ : Said → Said → Said
gives vs and_then rest = rest
refuses number place and_then rest = refuses number place

-- a refusal given exactly when the test holds
unfoldable pub refuse : Bool → ℕ → ℕ → Said
refuse t number place = pick t (refuses number place) (gives [])

-- the field that is due at a place: three bytes for its head, its tag, its length, its body; it gives where the body starts, and its length
unfoldable pub field_due : List ℕ → ℕ → ℕ → ℕ → Said
field_due file at tag size =
    refuse (ltb (length file) (at + 3)) 1 (length file)
    and_then refuse (not (eqb (get_or file at 0) tag)) 2 at
    and_then refuse (not (eqb (pair_at file (at + 1)) size)) 4 (at + 1)
    and_then refuse (ltb (length file) (at + 3 + size)) 1 (length file)
    and_then gives ((at + 3) ∷ size ∷ [])

-- n, k and start stand in the body of field 1
abbrev pub states_of : List ℕ → ℕ
states_of file = pair_at file 3

abbrev pub signs_of : List ℕ → ℕ
signs_of file = pair_at file 5

abbrev pub start_of : List ℕ → ℕ
start_of file = pair_at file 7

-- n, k or n × k outside its range
unfoldable pub outside : ℕ → ℕ → Bool
outside n k = eqb n 0 || ltb 1024 n || eqb k 0 || ltb 64 k || ltb 32000 (n * k)

-- field 1: its six bytes, the ranges before the start
unfoldable pub sizes_due : List ℕ → Said
sizes_due file =
    field_due file 0 1 6
    and_then refuse (outside (states_of file) (signs_of file)) 5 3
    and_then refuse (leb (states_of file) (start_of file)) 6 7
    and_then gives (states_of file ∷ signs_of file ∷ start_of file ∷ [])

-- the first mark that is neither 0 nor 1, of n marks; n where there is none
unfoldable pub bad_mark : List ℕ → ℕ → ℕ
bad_mark file n = least n (λ q. ltb 1 (get_or file (12 + q) 0))

-- field 2: n marks
unfoldable pub marks_due : List ℕ → ℕ → Said
marks_due file n =
    field_due file 9 2 n
    and_then refuse (ltb (bad_mark file n) n) 7 (12 + bad_mark file n)
    and_then gives (12 ∷ n ∷ [])

-- the first next state, of m, that is n or more; m where there is none
unfoldable pub bad_next : List ℕ → ℕ → ℕ → ℕ
bad_next file n m = least m (λ i. leb n (pair_at file (12 + n + 3 + 2 * i)))

-- field 3: m next states
unfoldable pub nexts_due : List ℕ → ℕ → ℕ → Said
nexts_due file n m =
    field_due file (12 + n) 3 (2 * m)
    and_then refuse (ltb (bad_next file n m) m) 8 (12 + n + 3 + 2 * bad_next file n m)
    and_then gives ((12 + n + 3) ∷ 2 * m ∷ [])

-- where a file of n states and m next states ends
abbrev pub end_of : ℕ → ℕ → ℕ
end_of n m = 12 + n + 3 + 2 * m

-- the judgement: the first refusal, or n, k and start
unfoldable pub judged : List ℕ → Said
judged file =
    sizes_due file
    and_then marks_due file (states_of file)
    and_then nexts_due file (states_of file) (states_of file * signs_of file)
    and_then refuse (ltb (end_of (states_of file) (states_of file * signs_of file)) (length file)) 3 (end_of (states_of file) (states_of file * signs_of file))
    and_then gives (states_of file ∷ signs_of file ∷ start_of file ∷ [])
