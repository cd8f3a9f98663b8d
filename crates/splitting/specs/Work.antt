-- A take in lent memory. It uses the first 8 × n numbers of the work slice, n each: the size of each class; the first state that goes from it; how many go; the new
-- name of each state; how many states of each class lead into the class taken; the classes of those that do; the class of each state; and its pending. Each pass
-- works on some of these eight lists.
use Rattle.std.specs.Prelude.{◌≡◌, ◌≢◌, Bool, not, ◌&&◌, List, ℕ, ◌*◌, ◌≤◌, ◌<◌, eqb, ltb, length, take, drop}
use Rattle.std.specs.Bool.{beq}
use Rattle.counting.specs.Lists.{at}
use Rattle.counting.specs.Least.{pick, least}
use Rattle.counting.specs.Counts.{any, count}
use Rattle.automaton.specs.Machine.{Machine}
use Rattle.refining.specs.Lists.{Split}
use Rattle.refining.specs.Take.{take as take_of, entries}
use Rattle.splitting.specs.declared.rooms.Rooms.{Rooms}

-- the two lists that the takes work on
abbrev pub class_in : ℕ → List ℕ → List ℕ
class_in n work = take n (drop (6 * n) work)

abbrev pub pending_in : ℕ → List ℕ → List ℕ
pending_in n work = take n (drop (7 * n) work)

abbrev pub lists_in : ℕ → List ℕ → Split
lists_in n work = record { class = class_in n work; pending = pending_in n work }

-- the two in their rooms
abbrev pub lists_of : Rooms → Split
lists_of w = record { class = w.classes.now; pending = w.pendings.now }

-- the lists of the first n numbers of each slice
abbrev pub lists : ℕ → List ℕ → List ℕ → Split
lists n class pending = record { class = take n class; pending = take n pending }

-- the next state of x under sign a lies in class q
unfoldable pub leads_to : Machine → List ℕ → ℕ → ℕ → ℕ → Bool
leads_to M class q a x = eqb (at class (M.next x a)) q

-- x is on the other side than its class's least state
unfoldable pub goes_by : Machine → List ℕ → ℕ → ℕ → ℕ → Bool
goes_by M class q a x = not (beq (leads_to M class q a x) (leads_to M class q a (at class x)))

-- of class c, and goes
unfoldable pub goer : Machine → List ℕ → ℕ → ℕ → ℕ → ℕ → Bool
goer M class q a c y = eqb (at class y) c && goes_by M class q a y

-- Each of the first n numbers of the class list is a state not greater, and its own class.
pub record Classed (n : ℕ) (class : List ℕ) : Type 0 where
  pub room : n ≤ length class
  pub low : (x : ℕ) → x < n → at class x ≤ x
  pub named : (x : ℕ) → x < n → at class (at class x) ≡ at class x

-- The same rooms, whatever is in them: what is written stays where it was lent.
pub record Same (before after : Rooms) : Type 0 where
  pub sizes : after.sizes.ghost_name ≡ before.sizes.ghost_name
  pub firsts : after.firsts.ghost_name ≡ before.firsts.ghost_name
  pub gones : after.gones.ghost_name ≡ before.gones.ghost_name
  pub renamed : after.renamed.ghost_name ≡ before.renamed.ghost_name
  pub leds : after.leds.ghost_name ≡ before.leds.ghost_name
  pub touched : after.touched.ghost_name ≡ before.touched.ghost_name
  pub classes : after.classes.ghost_name ≡ before.classes.ghost_name
  pub pendings : after.pendings.ghost_name ≡ before.pendings.ghost_name

-- Each of the eight lists has n numbers.
pub record Sized (n : ℕ) (w : Rooms) : Type 0 where
  pub sizes : length w.sizes.now ≡ n
  pub firsts : length w.firsts.now ≡ n
  pub gones : length w.gones.now ≡ n
  pub renamed : length w.renamed.now ≡ n
  pub leds : length w.leds.now ≡ n
  pub touched : length w.touched.now ≡ n
  pub classes : length w.classes.now ≡ n
  pub pendings : length w.pendings.now ≡ n

-- The sizes of the classes after the first x states.
pub record Counting (x : ℕ) (class size : List ℕ) : Type 0 where
  pub room : length size ≡ length class
  pub sizes : (c : ℕ) → c < length class → at size c ≡ count x (λ y. eqb (at class y) c)

-- Between takes: the size of each class, and zeros where a take counts.
pub record Ready (n : ℕ) (w : Rooms) : Type 0 where
  pub room : Sized n w
  pub sizes : (c : ℕ) → c < n → at w.sizes.now c ≡ count n (λ x. eqb (at w.classes.now x) c)
  pub firsts : (c : ℕ) → c < n → at w.firsts.now c ≡ 0
  pub gones : (c : ℕ) → c < n → at w.gones.now c ≡ 0
  pub leds : (c : ℕ) → c < n → at w.leds.now c ≡ 0

-- The first x states looked at: how many lead into the class taken, how many of each class do, and the classes of those.
pub record Counted (M : Machine) (class : List ℕ) (q a x : ℕ) (led touch : List ℕ) (looked : ℕ) : Type 0 where
  pub room : (length led ≡ M.size) × (length touch ≡ M.size)
  pub looks : looked ≡ count x (leads_to M class q a)
  pub leds : (c : ℕ) → c < M.size → at led c ≡ count x (λ y. eqb (at class y) c && leads_to M class q a y)
  pub touched : (c : ℕ) → c < M.size → at led c ≢ 0 → (j : ℕ) × (j < looked) × (at touch j ≡ c)
  pub within : (j : ℕ) → j < looked → at touch j < M.size

-- some class has states that lead into the class taken, and others
unfoldable pub some_split : List ℕ → List ℕ → Bool
some_split sizes leds = any (length sizes) (λ c. not (eqb (at leds c) 0) && not (eqb (at leds c) (at sizes c)))

-- The counts of leading states are looked through and set to 0 again.
pub record Unled (sizes before after : List ℕ) (split : Bool) : Type 0 where
  pub long : length after ≡ length before
  pub found : split ≡ some_split sizes before
  pub leds : (c : ℕ) → c < length sizes → at after c ≡ 0

-- the first of the states below x that goes from class c; 0 where none does
unfoldable pub first_goer : Machine → List ℕ → ℕ → ℕ → ℕ → ℕ → ℕ
first_goer M class q a x c = pick (ltb (least x (goer M class q a c)) x) (least x (goer M class q a c)) 0

-- The first x states named anew: a state that goes has the first of its class that goes for its name, any other keeps its name; and how many go from each class.
pub record Renamed (M : Machine) (class : List ℕ) (q a x : ℕ) (first gone name : List ℕ) : Type 0 where
  pub room : (length first ≡ M.size) × (length gone ≡ M.size) × (length name ≡ M.size)
  pub firsts : (c : ℕ) → c < M.size → at first c ≡ first_goer M class q a x c
  pub gones : (c : ℕ) → c < M.size → at gone c ≡ count x (goer M class q a c)
  pub renamed : (y : ℕ) → y < x → at name y ≡ pick (goes_by M class q a y) (least M.size (goer M class q a (at class y))) (at class y)

-- What a take leaves: the lists of the published take, the entries looked at, and the rooms ready for the next.
pub record Taken (M : Machine) (before after : Rooms) (looked : ℕ) : Type 0 where
  pub lists : lists_of after ≡ take_of M (lists_of before)
  pub looks : looked ≡ entries M (lists_of before)
  pub ready : Ready M.size after
  pub same : Same before after
