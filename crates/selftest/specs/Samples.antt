-- The sample tables of document 01, as lists of marks and of next states, and as machines.
use Rattle.std.specs.Prelude.{List, [], ◌∷◌, ◌++◌, ℕ, ◌+◌, ◌*◌, length}
use Rattle.counting.specs.Lists.{at}
use Rattle.automaton.specs.Machine.{Machine}
use Rattle.lending.specs.Pairs.{pair}

-- the machine of k signs that starts at 0, from the list of its marks and the list of its next states
abbrev pub sample : ℕ → List ℕ → List ℕ → Machine
sample k marks nexts = record { size = length marks; signs = k; start = 0; next = λ q a. at nexts (q * k + a); kind = at marks }

-- numbers of two bytes, the high byte first
unfoldable pub pairs : List ℕ → List ℕ
pairs [] = []
pairs (x ∷ xs) = pair x ++ pairs xs

-- T1: n 5, k 2, start 0, accepting 2 and 3
abbrev pub t1_marks : List ℕ
t1_marks = 0 ∷ 0 ∷ 1 ∷ 1 ∷ 0 ∷ []

abbrev pub t1_nexts : List ℕ
t1_nexts = 1 ∷ 0 ∷ 2 ∷ 0 ∷ 3 ∷ 2 ∷ 2 ∷ 3 ∷ 3 ∷ 0 ∷ []

-- T2: n 9, k 2, start 0, accepting 6, 7, 8
abbrev pub t2_marks : List ℕ
t2_marks = 0 ∷ 0 ∷ 0 ∷ 0 ∷ 0 ∷ 0 ∷ 1 ∷ 1 ∷ 1 ∷ []

abbrev pub t2_nexts : List ℕ
t2_nexts = 1 ∷ 8 ∷ 2 ∷ 4 ∷ 2 ∷ 6 ∷ 4 ∷ 7 ∷ 6 ∷ 6 ∷ 7 ∷ 7 ∷ 6 ∷ 6 ∷ 6 ∷ 6 ∷ 5 ∷ 3 ∷ []

-- T3: n 6, k 2, start 0, accepting 5
abbrev pub t3_marks : List ℕ
t3_marks = 0 ∷ 0 ∷ 0 ∷ 0 ∷ 0 ∷ 1 ∷ []

abbrev pub t3_nexts : List ℕ
t3_nexts = 1 ∷ 0 ∷ 2 ∷ 1 ∷ 3 ∷ 2 ∷ 4 ∷ 3 ∷ 5 ∷ 4 ∷ 5 ∷ 5 ∷ []

-- n 1, k 1, mark 0
abbrev pub single_marks : List ℕ
single_marks = 0 ∷ []

abbrev pub single_nexts : List ℕ
single_nexts = 0 ∷ []

abbrev pub t1 : Machine
t1 = sample 2 t1_marks t1_nexts

abbrev pub t2 : Machine
t2 = sample 2 t2_marks t2_nexts

abbrev pub t3 : Machine
t3 = sample 2 t3_marks t3_nexts

abbrev pub single : Machine
single = sample 1 single_marks single_nexts

-- T1's shrunk file
abbrev pub t1_shrunk : List ℕ
t1_shrunk =
    1 ∷ 0 ∷ 6 ∷ 0 ∷ 3 ∷ 0 ∷ 2 ∷ 0 ∷ 0 ∷ 2 ∷ 0 ∷ 3 ∷ 0 ∷ 0 ∷ 1 ∷
    3 ∷ 0 ∷ 12 ∷ 0 ∷ 1 ∷ 0 ∷ 0 ∷ 0 ∷ 2 ∷ 0 ∷ 0 ∷ 0 ∷ 2 ∷ 0 ∷ 2 ∷ []
