-- The rows in the work slice: the classes by full splitting from fresh lists, and what marking, flagging and numbering leave. Rests on demand 3 and on `RowsOf`.
use mathlib.Core.Path.{◌≡◌, refl, sym, ap, ap₂, subst, subst₂, ◌∙◌}
use mathlib.Core.Logic.{◌↔◌}
use mathlib.Core.Bool.{Bool, true, false, ◌&&◌}
use mathlib.Core.List.{List, [], ◌∷◌, ◌++◌}
use Prim.Native.Nat.{ℕ, ◌+◌, ◌-◌, ◌*◌, ◌≤◌, ◌<◌}
use native.Mathlib.Nat.{mul_comm, mul-le-mul_left}
use native.Mathlib.Omega.{arith}
use borrow.Author.Tests.{eq-eqb, eqb-true}
use lib.Dec.{eqb}
use lib.ListN.{length, get_or, take, drop, length-append, length-drop}
use lib.Seq.{get_or-drop, take_all}
use Rattle.std.proofs.lemmas.List.{append_assoc, drop_at, drop-drop, take-append-le}
use Rattle.counting.specs.Lists.{at}
use Rattle.counting.specs.Least.{pick}
use Rattle.counting.specs.Counts.{any, place}
use Rattle.counting.proofs.Cases.{by_test}
use Rattle.counting.proofs.Tallies.{any_iff, any_cong, count_most}
use Rattle.counting.proofs.Thoses.{those_cong}
use Rattle.automaton.specs.Machine.{Machine, Lawful}
use Rattle.automaton.specs.Words.{Reached}
use Rattle.automaton.specs.Layers.{rounds, classes, class_count}
use Rattle.automaton.specs.Reach.{reachable}
use Rattle.automaton.specs.Quotient.{rows, rows_for}
use Rattle.automaton.proofs.Alikes.{layer-length}
use Rattle.automaton.proofs.Walks.{steps_next, same_next}
use Rattle.automaton.proofs.Settling.{classes-in, classes_same, classes_member}
use Rattle.automaton.proofs.Reaching.{reachable_iff}
use Rattle.automaton.proofs.Rowlists.{rows_of}
use Rattle.automaton.proofs.Quotients.{reached_start, reached_next}
use Rattle.refining.specs.Lists.{Split, WellFormed}
use Rattle.refining.specs.Fresh.{fresh}
use Rattle.refining.specs.Run.{run_lists, run_takes, all_lists, all_takes, total}
use Rattle.refining.proofs.Freshness.{fresh-formed}
use Rattle.refining.proofs.Demand.{whole_takes, demand_3}
use Rattle.table.specs.Tables.{machine, unmarked}
use Rattle.table.specs.declared.tables.Table.{Table}
use Rattle.table.proofs.Handing.{held_lawful}
use Rattle.splitting.specs.Work.{lists_in}
use Rattle.splitting.specs.Starting.{StartedIn}
use Rattle.splitting.specs.Running.{RanIn}
use Rattle.splitting.proofs.RunWays.{lists_bare, takes_bare}
use Rattle.shrinking.specs.Reached.{holds, flagged_below, FoundIn, Flagged, Numbered}
use Rattle.shrinking.specs.Written.{WritableBy, rows_in, numbers_in, classes_in}
use Rattle.shrinking.specs.Found.{RowsFound}
use Rattle.shrinking.proofs.Promises.{rows_most}

-- tests that pass together are one test
same_test : (a b : Bool) → (a ≡ true) ↔ (b ≡ true) → a ≡ b
same_test true b h = sym (h.0 refl)
same_test false b h = by_test b (λ e. h.1 e ∙ sym e) (λ e. sym e)

eqb-pick : (b : Bool) → eqb (pick b 1 0) 1 ≡ b
unfolding pick
eqb-pick true = refl
eqb-pick false = refl

-- a list in the middle of lists
middle : (front xs back : List ℕ) (m k : ℕ) → length front ≡ m → k ≤ length xs → take k (drop m (front ++ (xs ++ back))) ≡ take k xs
middle front xs back m k e l = ap (take k) (drop_at front (xs ++ back) m e) ∙ take-append-le k xs back l

-- lists that agree from a place on
agree_beyond : (m : ℕ) (v w : List ℕ) → drop m v ≡ drop m w → (i : ℕ) → m ≤ i → at v i ≡ at w i
agree_beyond m v w e i l =
    let f : m + (i - m) ≡ i = omega arith in
    ap (at v) (sym f) ∙ sym (get_or-drop m v (i - m) 0) ∙ ap (λ (xs : List ℕ). at xs (i - m)) e ∙ get_or-drop m w (i - m) 0 ∙ ap (at w) f

module _ (t : Table) where
  abbrev n : ℕ
  n = t.nexts.sizes.states

  abbrev marks : List ℕ
  marks = t.marks.bytes.now

  abbrev M : Machine
  M = machine t

  abbrev N : Machine
  N = unmarked t.nexts

  lawful : Lawful M
  lawful = held_lawful marks t.nexts.held

  -- a full splitting fits in the largest budget
  whole_fits : whole_takes M ≤ 65535
  unfolding class_count
  whole_fits =
      let m : ℕ = class_count n (classes M) in
      let few : m ≤ n = count_most n (λ q. eqb (at (classes M) q) q) in
      let less : m - 1 ≤ n = omega arith in
      omega (arith, mul-le-mul_left M.signs less, mul_comm M.signs n, t.nexts.held.range.nexts_most)

  whole_lists : (b : ℕ) → whole_takes M ≤ b → (run_lists M b (fresh M)).class ≡ classes M
  unfolding all_lists total
  whole_lists b l = (demand_3 M lawful (b ∷ [])).classes (omega arith)

  whole_count : (b : ℕ) → whole_takes M ≤ b → run_takes M b (fresh M) ≡ whole_takes M
  unfolding all_takes total
  whole_count b l = omega (arith, (demand_3 M lawful (b ∷ [])).takes)

  -- the lists are fresh, of as many states as the table has
  started : {before after : List ℕ} → StartedIn (length marks) M.signs marks before after → StartedIn n M.signs marks before after
  started {before} {after} s = subst (λ (m : ℕ). StartedIn m M.signs marks before after) t.sized s

  pub started_formed : (before after : List ℕ) → StartedIn (length marks) M.signs marks before after → WellFormed n M.signs (lists_in n after)
  started_formed before after s = subst (WellFormed n M.signs) (sym ((started s).lists M.start t.nexts.bytes.now)) (fresh-formed M lawful)

  -- the classes in what stands behind the lists of the rows
  abbrev lent_in : List ℕ → List ℕ
  lent_in rest = take (3 * n - 2 * n) (drop (2 * n) rest)

  lent_is : (work : List ℕ) → lent_in (drop (4 * n) work) ≡ classes_in n work
  lent_is work = ap₂ take (omega arith) (drop-drop (2 * n) (4 * n) work ∙ ap (λ (m : ℕ). drop m work) (omega arith))

  -- the splitting has found the classes
  module _ (w₀ w₁ w₂ : List ℕ) (takes looked : ℕ) (s : StartedIn (length marks) M.signs marks w₀ w₁) (r : RanIn N 65535 w₁ w₂ takes looked) where
    fresh_lists : lists_in n w₁ ≡ fresh M
    fresh_lists = (started s).lists M.start t.nexts.bytes.now

    pub classes_found : (lists_in n w₂).class ≡ classes M
    classes_found =
        ap (λ (l : Split). l.class) (r.lists ∙ ap (run_lists N 65535) fresh_lists ∙ lists_bare n M.signs M.start marks t.nexts.bytes.now 65535 (fresh M))
        ∙ whole_lists 65535 whole_fits

    takes_found : takes ≡ whole_takes M
    takes_found =
        r.counts.0 ∙ ap (run_takes N 65535) fresh_lists ∙ takes_bare n M.signs M.start marks t.nexts.bytes.now 65535 (fresh M) ∙ whole_count 65535 whole_fits

    -- they stand behind the lists of the rows
    classes_lent : (rest : List ℕ) → rest ≡ drop (4 * n) w₂ → lent_in rest ≡ classes M
    classes_lent rest e = ap lent_in e ∙ lent_is w₂ ∙ classes_found

    pub classed : (rest : List ℕ) → rest ≡ drop (4 * n) w₂ → (q : ℕ) → q < n → at (lent_in rest) q < n
    classed rest e q l = rw (classes_lent rest e) (classes-in M lawful q l)

  -- words lead to the same states whatever the marks
  reached_bare : (q : ℕ) → Reached N q ↔ Reached M q
  reached_bare q = (
    (λ r. record { by = r.by; word = r.word; leads = steps_next M N (λ p a. refl) M.start r.by ∙ r.leads }),
    (λ r. record { by = r.by; word = r.word; leads = steps_next N M (λ p a. refl) M.start r.by ∙ r.leads }),
  )

  -- the reached states marked, their classes flagged and numbered
  module _ (reached flags numbers listed : List ℕ) (count : ℕ) (f : FoundIn N reached) (d : Flagged reached (classes M) n flags) (u : Numbered flags n numbers listed count) (long : length flags ≡ n) where
    marked_reached : (q : ℕ) → q < n → eqb (at reached q) 1 ≡ get_or (reachable M) q false
    marked_reached q l =
        let e = f.marks q l in
        let g = reachable_iff M lawful q l in
        let b = reached_bare q in
        same_test (eqb (at reached q) 1) (get_or (reachable M) q false)
        ((λ h. g.1 (b.0 (e.0 (eqb-true (at reached q) 1 h)))), (λ h. eq-eqb (at reached q) 1 (e.1 (b.1 (g.0 h)))))

    flag_is : (c : ℕ) → c < n → eqb (at flags c) 1 ≡ any n (λ q. get_or (reachable M) q false && eqb (at (classes M) q) c)
    unfolding holds
    flag_is c l =
        ap (λ (x : ℕ). eqb x 1) (d c (omega arith))
        ∙ eqb-pick (holds reached (classes M) n c)
        ∙ any_cong n _ _ (λ q k. ap (λ (b : Bool). b && eqb (at (classes M) q) c) (marked_reached q k))

    rows_flagged : flagged_below flags n ≡ rows M
    unfolding flagged_below rows rows_for
    rows_flagged = those_cong n _ _ flag_is

    count_is : count ≡ length (rows M)
    count_is = u.counted ∙ ap length rows_flagged

    rows_are : take count listed ≡ rows M
    rows_are = u.listed ∙ rows_flagged

    -- the class of a reached state has its row's number
    number_is : (q : ℕ) → q < n → Reached M q → at numbers (at (classes M) q) ≡ place (rows M) (at (classes M) q)
    number_is q l r =
        let c : ℕ = at (classes M) q in
        let h : c < n = classes-in M lawful q l in
        let e : any n (λ p. get_or (reachable M) p false && eqb (at (classes M) p) c) ≡ true
        = (any_iff n _).1 (q, l, ap₂ ◌&&◌ ((reachable_iff M lawful q l).1 r) (eq-eqb c c refl)) in
        u.places c h (eqb-true (at flags c) 1 (flag_is c h ∙ e)) ∙ ap (λ (xs : List ℕ). place xs c) rows_flagged

    -- the class of a next state of a row is that of a reached state
    next_reached : (i a : ℕ) → i < length (rows M) → a < M.signs → (q : ℕ) × (q < n) × Reached M q × (at (classes M) (M.next (at (rows M) i) a) ≡ at (classes M) q)
    next_reached i a l m =
        let (q, h, r, e) = (rows_of M lawful).only i l in
        let c : ℕ = at (classes M) q in
        let inside : c < n = classes-in M lawful q h in
        let here : M.next q a < n = lawful.next_in q a h m in
        let there : M.next c a < n = lawful.next_in c a inside m in (
          M.next q a,
          here,
          reached_next M q a m r,
          ap (λ (x : ℕ). at (classes M) (M.next x a)) (sym e) ∙ (classes_same M lawful (M.next c a) (M.next q a) there here).1 (same_next M a m (classes_member M lawful q h)),
        )

    row_state : (i : ℕ) → i < length (rows M) → at (rows M) i < n
    row_state i l =
        let (q, h, r, e) = (rows_of M lawful).only i l in
        subst (λ (c : ℕ). c < n) e (classes-in M lawful q h)

    next_number : (i a : ℕ) → i < length (rows M) → a < M.signs → at numbers (at (classes M) (M.next (at (rows M) i) a)) ≡ place (rows M) (at (classes M) (M.next (at (rows M) i) a))
    next_number i a l m =
        let (q, h, r, e) = next_reached i a l m in
        subst (λ (c : ℕ). at numbers c ≡ place (rows M) c) (sym e) (number_is q h r)

    some : 0 < length (rows M)
    some = let (i, l, e) = (rows_of M lawful).here M.start lawful.start-in (reached_start M) in omega arith

    classes_long : length (classes M) ≡ n
    unfolding classes
    classes_long = layer-length M (rounds M)

    writable : length numbers ≡ n → WritableBy M (rows M) numbers (classes M)
    writable e = record {
      some = some;
      most = rows_most M lawful;
      numbered = e;
      classed = classes_long;
      states = row_state;
      inside = classes-in M lawful;
      start = number_is M.start lawful.start-in (reached_start M);
      nexts = next_number;
    }

  -- what all this leaves in the slice
  module _ (w₀ w₁ w₂ : List ℕ) (takes looked : ℕ) (s : StartedIn (length marks) M.signs marks w₀ w₁) (r : RanIn N 65535 w₁ w₂ takes looked) (room : 8 * n ≤ length w₀) where
    pub rows_found : (rest reached flags numbers listed : List ℕ) (count : ℕ) → rest ≡ drop (4 * n) w₂
        → FoundIn N reached → Flagged reached (lent_in rest) (length reached) flags → Numbered flags (length flags) numbers listed count
        → length reached ≡ n → length flags ≡ n → length numbers ≡ n → length listed ≡ n
        → RowsFound M w₀ ((reached ++ (flags ++ (numbers ++ listed))) ++ rest) count takes
    rows_found rest reached flags numbers listed count e f flagged numbered lr lf ln ll = record {
      long = omega (arith, length-append front rest, front_long, ap length e, length-drop (4 * n) w₂, r.long, s.long);
      counted = count_is reached flags numbers listed count f d u lf;
      takes = takes_found w₀ w₁ w₂ takes looked s r;
      rows = rows_there;
      classes = classes_there;
      writable = rw (rows_there, numbers_there, classes_there) (writable reached flags numbers listed count f d u lf ln);
      beyond = λ i l. agree_beyond (4 * n) after w₂ back i (omega arith) ∙ r.beyond i l ∙ (started s).beyond i l;
    }
      where
        front : List ℕ
        front = reached ++ (flags ++ (numbers ++ listed))

        after : List ℕ
        after = front ++ rest

        front_long : length front ≡ 4 * n
        front_long = simp length-append (omega arith)

        d : Flagged reached (classes M) n flags
        d = subst₂ (λ (cs : List ℕ) (x : ℕ). Flagged reached cs x flags) (classes_lent w₀ w₁ w₂ takes looked s r rest e) lr flagged

        u : Numbered flags n numbers listed count
        u = subst (λ (x : ℕ). Numbered flags x numbers listed count) lf numbered

        back : drop (4 * n) after ≡ drop (4 * n) w₂
        back = drop_at front rest (4 * n) front_long ∙ e

        rows_there : rows_in n count after ≡ rows M
        rows_there =
            let same : after ≡ (reached ++ (flags ++ numbers)) ++ (listed ++ rest) = simp append_assoc in
            let few : count ≤ n = omega (arith, count_is reached flags numbers listed count f d u lf, rows_most M lawful) in
            ap (rows_in n count) same
            ∙ middle (reached ++ (flags ++ numbers)) listed rest (3 * n) count (simp length-append (omega arith)) (omega arith)
            ∙ rows_are reached flags numbers listed count f d u lf

        numbers_there : numbers_in n after ≡ numbers
        numbers_there =
            let same : after ≡ (reached ++ flags) ++ (numbers ++ (listed ++ rest)) = simp append_assoc in
            ap (numbers_in n) same
            ∙ middle (reached ++ flags) numbers (listed ++ rest) (2 * n) n (simp length-append (omega arith)) (omega arith)
            ∙ take_all n numbers (omega arith)

        classes_there : classes_in n after ≡ classes M
        classes_there = sym (lent_is after) ∙ classes_lent w₀ w₁ w₂ takes looked s r (drop (4 * n) after) back
