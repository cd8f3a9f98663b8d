-- The passes of a take, told of the work slice itself: its first 8 × n numbers are the eight lists, n each, and each pass says what of them it leaves, and that all beyond is as it was. Rests on what the passes over the lists say of a class and of a state.
use Rattle.std.specs.Prelude.{◌≡◌, ◌≢◌, Bool, not, ◌&&◌, List, ℕ, ◌+◌, ◌*◌, ◌-◌, ◌≤◌, ◌<◌, eqb, ltb, leb, length}
use Rattle.counting.specs.Lists.{at}
use Rattle.counting.specs.Least.{pick, least}
use Rattle.counting.specs.Counts.{any, count}
use Rattle.automaton.specs.Machine.{Machine}
use Rattle.refining.specs.Take.{take as take_of, entries}
use Rattle.splitting.specs.Work.{class_in, lists_in, leads_to, goes_by, goer, first_goer}

-- the numbers of a class, and of a state
abbrev pub size_of : List ℕ → ℕ → ℕ
size_of work c = at work c

abbrev pub first_of : ℕ → List ℕ → ℕ → ℕ
first_of n work c = at work (n + c)

abbrev pub gone_of : ℕ → List ℕ → ℕ → ℕ
gone_of n work c = at work (2 * n + c)

abbrev pub renamed_of : ℕ → List ℕ → ℕ → ℕ
renamed_of n work x = at work (3 * n + x)

abbrev pub led_of : ℕ → List ℕ → ℕ → ℕ
led_of n work c = at work (4 * n + c)

abbrev pub touched_of : ℕ → List ℕ → ℕ → ℕ
touched_of n work j = at work (5 * n + j)

abbrev pub class_of : ℕ → List ℕ → ℕ → ℕ
class_of n work x = at work (6 * n + x)

abbrev pub pending_of : ℕ → List ℕ → ℕ → ℕ
pending_of n work x = at work (7 * n + x)

-- Between takes: the size of each class, and zeros where a take counts.
pub record ReadyIn (n : ℕ) (work : List ℕ) : Type 0 where
  pub room : 8 * n ≤ length work
  pub sizes : (c : ℕ) → c < n → size_of work c ≡ count n (λ x. eqb (at (class_in n work) x) c)
  pub firsts : (c : ℕ) → c < n → first_of n work c ≡ 0
  pub gones : (c : ℕ) → c < n → gone_of n work c ≡ 0
  pub leds : (c : ℕ) → c < n → led_of n work c ≡ 0

-- The first x states looked at: how many lead into the class taken, how many of each class do, and the classes of those.
pub record CountedIn (M : Machine) (class : List ℕ) (q a x : ℕ) (before after : List ℕ) (looked : ℕ) : Type 0 where
  pub long : length after ≡ length before
  pub looks : looked ≡ count x (leads_to M class q a)
  pub leds : (c : ℕ) → c < M.size → led_of M.size after c ≡ count x (λ y. eqb (at class y) c && leads_to M class q a y)
  pub touched : (c : ℕ) → c < M.size → led_of M.size after c ≢ 0 → (j : ℕ) × (j < looked) × (touched_of M.size after j ≡ c)
  pub within : (j : ℕ) → j < looked → touched_of M.size after j < M.size
  pub below : (i : ℕ) → i < 4 * M.size → at after i ≡ at before i
  pub beyond : (i : ℕ) → 6 * M.size ≤ i → at after i ≡ at before i

-- some class has states that lead into the class taken, and others
unfoldable pub some_split_in : ℕ → List ℕ → Bool
some_split_in n work = any n (λ c. not (eqb (led_of n work c) 0) && not (eqb (led_of n work c) (size_of work c)))

-- The counts of leading states are looked through and set to 0 again.
pub record UnledIn (n : ℕ) (before after : List ℕ) (split : Bool) : Type 0 where
  pub long : length after ≡ length before
  pub found : split ≡ some_split_in n before
  pub leds : (c : ℕ) → c < n → led_of n after c ≡ 0
  pub below : (i : ℕ) → i < 4 * n → at after i ≡ at before i
  pub beyond : (i : ℕ) → 5 * n ≤ i → at after i ≡ at before i

-- The first x states named anew: a state that goes has the first of its class that goes for its name, any other keeps its name; and how many go from each class.
pub record RenamedIn (M : Machine) (class : List ℕ) (q a x : ℕ) (before after : List ℕ) : Type 0 where
  pub long : length after ≡ length before
  pub sizes : (c : ℕ) → c < M.size → size_of after c ≡ size_of before c
  pub firsts : (c : ℕ) → c < M.size → first_of M.size after c ≡ first_goer M class q a x c
  pub gones : (c : ℕ) → c < M.size → gone_of M.size after c ≡ count x (goer M class q a c)
  pub renamed : (y : ℕ) → y < x → renamed_of M.size after y ≡ pick (goes_by M class q a y) (least M.size (goer M class q a (at class y))) (at class y)
  pub beyond : (i : ℕ) → 4 * M.size ≤ i → at after i ≡ at before i

-- the states of a class that keep its name
abbrev pub kept_of_in : ℕ → List ℕ → ℕ → ℕ
kept_of_in n work p = at work p - gone_of n work p

-- the pending of the kept name, and of the new one: the part that isn't larger waits with all signs where it keeps the name, else the other does
unfoldable pub kept_pending_in : ℕ → ℕ → List ℕ → ℕ → ℕ
kept_pending_in n k work p = pick (leb (kept_of_in n work p) (gone_of n work p)) k (pending_of n work p)

unfoldable pub new_pending_in : ℕ → ℕ → List ℕ → ℕ → ℕ
new_pending_in n k work p = pick (leb (kept_of_in n work p) (gone_of n work p)) (pending_of n work p) k

-- The classes below m shared: of each that is split the kept name and the new one have their pending and size, and its first and gone are 0; all else is as it was.
pub record SharedIn (n k m : ℕ) (before after : List ℕ) : Type 0 where
  pub long : length after ≡ length before
  pub kept : (p : ℕ) → p < m → first_of n before p ≢ 0 → (pending_of n after p ≡ kept_pending_in n k before p) × (at after p ≡ kept_of_in n before p)
  pub new : (p : ℕ) → p < m → first_of n before p ≢ 0 → (pending_of n after (first_of n before p) ≡ new_pending_in n k before p) × (at after (first_of n before p) ≡ gone_of n before p)
  pub others : (y : ℕ) → y < n → (y < m → first_of n before y ≡ 0) → ((p : ℕ) → p < m → first_of n before p ≢ 0 → y ≢ first_of n before p) → (pending_of n after y ≡ pending_of n before y) × (at after y ≡ at before y)
  pub firsts : (p : ℕ) → p < n → first_of n after p ≡ pick (ltb p m) 0 (first_of n before p)
  pub gones : (p : ℕ) → p < n → gone_of n after p ≡ pick (ltb p m && not (eqb (first_of n before p) 0)) 0 (gone_of n before p)
  pub between : (i : ℕ) → 3 * n ≤ i → i < 7 * n → at after i ≡ at before i
  pub beyond : (i : ℕ) → 8 * n ≤ i → at after i ≡ at before i

-- The first x new names taken over; all else is as it was.
pub record AdoptedIn (n x : ℕ) (before after : List ℕ) : Type 0 where
  pub long : length after ≡ length before
  pub names : (y : ℕ) → y < x → class_of n after y ≡ renamed_of n before y
  pub below : (i : ℕ) → i < 6 * n → at after i ≡ at before i
  pub beyond : (i : ℕ) → 6 * n + x ≤ i → at after i ≡ at before i

-- What a take leaves: the lists of the published take, the entries looked at, the work slice ready for the next, and all beyond as it was.
pub record TakenIn (M : Machine) (before after : List ℕ) (looked : ℕ) : Type 0 where
  pub long : length after ≡ length before
  pub lists : lists_in M.size after ≡ take_of M (lists_in M.size before)
  pub looks : looked ≡ entries M (lists_in M.size before)
  pub ready : ReadyIn M.size after
  pub beyond : (i : ℕ) → 8 * M.size ≤ i → at after i ≡ at before i
