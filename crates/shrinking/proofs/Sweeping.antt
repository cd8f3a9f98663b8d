-- A sweep over the states: its beginning, one state more, and its end; and sweeps until one marks nothing new. Rests on the laws of reached states.
use mathlib.Core.Path.{◌≡◌, refl, sym, subst, ◌∙◌}
use mathlib.Core.Logic.{◌≢◌}
use mathlib.Core.Bool.{Bool, true, false, ◌||◌, true≢false}
use mathlib.Core.List.{List, [], ◌∷◌, ◌++◌}
use Prim.Native.Nat.{ℕ, suc, ◌+◌, ◌≤◌, ◌<◌}
use native.Mathlib.Numerals.{add-one}
use native.Mathlib.Decide.{ℕ_discrete}
use native.Mathlib.Omega.{arith}
use borrow.Author.Tests.{eq-eqb, ne_eqb, eqb-true}
use lib.Dec.{eqb}
use lib.ListN.{length, set, drop, length-append, length-drop, get_or-append}
use Rattle.std.proofs.lemmas.List.{places}
use Rattle.std.specs.Prelude.{◌↔◌}
use lib.Seq.{get_or-set_same, get_or-set_other}
use Rattle.counting.specs.Lists.{at}
use Rattle.counting.specs.Least.{pick}
use Rattle.counting.specs.Counts.{count}
use Rattle.counting.proofs.Cases.{by_test, neither}
use Rattle.counting.proofs.Tallies.{any_iff, count_more}
use Rattle.automaton.specs.Machine.{Machine, Lawful}
use Rattle.automaton.specs.Words.{Word, steps, Reached}
use Rattle.automaton.proofs.Quotients.{reached_start, reached_next}
use Rattle.shrinking.specs.Reached.{leads_to, Spread, SpreadMarked, Sound, Swept, FoundIn, Found}

-- What one state of a sweep leaves: marks are only set, and its own next states are marked where it is.
record Stepped (M : Machine) (q : ℕ) (before after : List ℕ) (new : Bool) : Type 0 where
  sound : Sound M after
  kept : (x : ℕ) → x < M.size → at before x ≡ 1 → at after x ≡ 1
  quiet : new ≡ false → (x : ℕ) → x < M.size → at after x ≡ at before x
  own : (a : ℕ) → a < M.signs → at before q ≡ 1 → at after (M.next q a) ≡ 1
  busy : new ≡ true → (x : ℕ) × (x < M.size) × (at before x ≡ 0) × (at after x ≡ 1)

-- What a sweep over the first q states leaves.
pub record Sweeping (M : Machine) (q : ℕ) (before after : List ℕ) (new : Bool) : Type 0 where
  pub sound : Sound M after
  pub kept : (x : ℕ) → x < M.size → at before x ≡ 1 → at after x ≡ 1
  pub quiet : new ≡ false → (x a : ℕ) → x < q → a < M.signs → at after x ≡ 1 → at after (M.next x a) ≡ 1
  pub busy : new ≡ true → (x : ℕ) × (x < M.size) × (at before x ≡ 0) × (at after x ≡ 1)

module _ (M : Machine) (g : Lawful M) where
  module _ (q : ℕ) (l : q < M.size) (w v : List ℕ) (new : Bool) (s : Sound M w) where
    module _ (m : at w q ≡ 1) (p : Spread M q M.signs w v new) where
      -- the state is marked as it was, or it is a next state of q
      marked : (x : ℕ) → x < M.size → (leads_to M q M.signs x ≡ true → at v x ≡ 1) × (leads_to M q M.signs x ≡ false → at v x ≡ at w x)
      unfolding pick
      marked x k = ((λ t. rw t at (p.marks x k)), (λ t. rw t at (p.marks x k)))

      leads : (x a : ℕ) → a < M.signs → M.next q a ≡ x → leads_to M q M.signs x ≡ true
      unfolding leads_to
      leads x a k e = (any_iff M.signs _).1 (a, k, eq-eqb (M.next q a) x e)

      led : (x : ℕ) → leads_to M q M.signs x ≡ true → Reached M x
      unfolding leads_to
      led x t =
          let (a, k, e) = (any_iff M.signs _).0 t in
          subst (Reached M) (eqb-true (M.next q a) x e) (reached_next M q a k (s.only q l m))

      kept : (x : ℕ) → x < M.size → at w x ≡ 1 → at v x ≡ 1
      kept x k e = by_test (leads_to M q M.signs x) (marked x k).0 (λ t. (marked x k).1 t ∙ e)

      stepped_marked : Stepped M q w v new
      stepped_marked = record {
        sound = record {
          small = λ x k. by_test (leads_to M q M.signs x) (λ t. omega (arith, (marked x k).0 t)) (λ t. omega (arith, (marked x k).1 t, s.small x k));
          start = kept M.start g.start-in s.start;
          only = λ x k e. by_test (leads_to M q M.signs x) (led x) (λ t. s.only x k (sym ((marked x k).1 t) ∙ e));
        };
        kept = kept;
        quiet = p.quiet;
        own = λ a k e. (marked (M.next q a) (g.next_in q a l k)).0 (leads (M.next q a) a k refl);
        busy = p.busy;
      }

    stepped_unmarked : at w q ≡ 0 → v ≡ w → new ≡ false → Stepped M q w v new
    stepped_unmarked z e f = rw e (record {
      sound = s;
      kept = λ x k h. h;
      quiet = λ t x k. refl;
      own = λ a k h. absurd (omega arith);
      busy = λ t. absurd (true≢false (sym t ∙ f));
    })

    stepped : SpreadMarked M q w v new → Stepped M q w v new
    stepped p = elim (ℕ_discrete (at w q) 0) [
      | yes z ↦ stepped_unmarked z (p.unmarked z).0 (p.unmarked z).1
      | no u ↦ stepped_marked (omega (arith, s.small q l)) (p.marked u)
    ]

  module _ (q : ℕ) (l : q < M.size) (w v u : List ℕ) (new more : Bool) (s : Sound M w) (r : Sweeping M q w v new) (p : Stepped M q v u more) where
    -- where nothing is new so far, the next states of the marked states stay marked
    closed : new ≡ false → more ≡ false → (x a : ℕ) → x < suc q → a < M.signs → at u x ≡ 1 → at u (M.next x a) ≡ 1
    closed e f x a k h o = elim (ℕ_discrete x q) [
      | yes d ↦ subst (λ (y : ℕ). at u (M.next y a) ≡ 1) (sym d) (p.own a h (subst (λ (y : ℕ). at v y ≡ 1) d before))
      | no n ↦ p.kept (M.next x a) (g.next_in x a (omega arith) h) (r.quiet e x a (omega arith) h before)
    ]
      where
        before : at v x ≡ 1
        before = sym (p.quiet f x (omega arith)) ∙ o

    busy : (b c : Bool) → b ≡ new → c ≡ more → (b || c) ≡ true → (x : ℕ) × (x < M.size) × (at w x ≡ 0) × (at u x ≡ 1)
    busy true c e f t =
        let (x, k, z, o) = r.busy (sym e) in
        (x, k, z, p.kept x k o)
    busy false c e f t =
        let (x, k, z, o) = p.busy (sym f ∙ t) in
        let n : at w x ≢ 1 = λ h. absurd (omega (arith, r.kept x k h)) in
        (x, k, omega (arith, s.small x k), o)

    goes_on : Sweeping M (suc q) w u (new || more)
    goes_on = record {
      sound = p.sound;
      kept = λ x k e. p.kept x k (r.kept x k e);
      quiet = λ t. let (e, f) = neither new more t in closed e f;
      busy = busy new more refl refl;
    }

  pub sweep_more : (q : ℕ) → q < M.size → (w v u : List ℕ) (new more told : Bool) → Sound M w → Sweeping M q w v new → SpreadMarked M q v u more → told ≡ (new || more) → Sweeping M (q + 1) w u told
  sweep_more q l w v u new more told s r p t = rw (add-one q, t) (goes_on q l w v u new more s r (stepped q l v u more r.sound p))

  -- the start alone is marked
  module _ (w : List ℕ) (room : M.size ≤ length w) (clear : (x : ℕ) → x < M.size → at w x ≡ 0) where
    abbrev s : ℕ
    s = M.start

    only : (x : ℕ) → x ≡ s → at (set w s 1) x ≡ 1
    only x d = rw d (get_or-set_same w s 1 0 (omega (arith, g.start-in)))

    others : (x : ℕ) → x < M.size → x ≢ s → at (set w s 1) x ≡ 0
    others x k u = get_or-set_other w s x 1 0 u ∙ clear x k

    pub sound_start : Sound M (set w s 1)
    sound_start = record {
      small = λ x k. elim (ℕ_discrete x s) [ yes d ↦ omega (arith, only x d) | no u ↦ omega (arith, others x k u) ];
      start = only s refl;
      only = λ x k o. elim (ℕ_discrete x s) [
        | yes d ↦ subst (Reached M) (sym d) (reached_start M)
        | no u ↦ absurd (omega (arith, others x k u))
      ];
    }

  -- a closed set of marks has where its states lead
  closed_steps : (v : List ℕ) → ((x a : ℕ) → x < M.size → a < M.signs → at v x ≡ 1 → at v (M.next x a) ≡ 1)
      → (x : ℕ) → x < M.size → at v x ≡ 1 → (by : List ℕ) → Word M.signs by → at v (steps M x by) ≡ 1
  unfolding steps
  closed_steps v h x l o [] t = o
  closed_steps v h x l o (a ∷ by) t = closed_steps v h (M.next x a) (g.next_in x a l t.0) (h x a l t.0 o) by t.1

  -- where a sweep marks nothing new, the marked states are those that are reached
  pub found_quiet : (v u : List ℕ) (new : Bool) → new ≡ false → Swept M v u new → FoundIn M u
  found_quiet v u new t s = record {
    small = s.sound.small;
    marks = λ x l. (s.sound.only x l, λ r. subst (λ (y : ℕ). at u y ≡ 1) r.leads (closed_steps u (s.quiet t) M.start g.start-in s.sound.start r.by r.word));
  }

-- a sweep that marks a state leaves fewer unmarked
pub fewer_unmarked : (M : Machine) (v u : List ℕ) (new : Bool) → new ≡ true → Sound M v → Swept M v u new → count M.size (λ x. eqb (at u x) 0) < count M.size (λ x. eqb (at v x) 0)
fewer_unmarked M v u new t s p =
    let (j, l, z, o) = p.busy t in
    count_more M.size _ _ (λ x k e. eq-eqb (at v x) 0 (unmarked x k (eqb-true (at u x) 0 e))) j l (ne_eqb (at u j) 0 (λ e. absurd (omega arith))) (eq-eqb (at v j) 0 z)
  where
    unmarked : (x : ℕ) → x < M.size → at u x ≡ 0 → at v x ≡ 0
    unmarked x k e =
        let n : at v x ≢ 1 = λ h. absurd (omega (arith, p.kept x k h)) in
        omega (arith, s.small x k)

-- found in the front of a slice, whose rest is as it was
pub found_front : (M : Machine) (work reached : List ℕ) → M.size ≤ length work → length reached ≡ M.size → FoundIn M reached → Found M work (reached ++ drop M.size work)
found_front M work reached room long f = record {
  long = omega (arith, length-append reached (drop M.size work), length-drop M.size work);
  small = λ x l. subst (λ (v : ℕ). v ≤ 1) (sym (front x l)) (f.small x l);
  reached = λ x l. subst (λ (v : ℕ). (v ≡ 1) ↔ Reached M x) (sym (front x l)) (f.marks x l);
  beyond = λ i l. grind (arith, places);
}
  where
    front : (x : ℕ) → x < M.size → at (reached ++ drop M.size work) x ≡ at reached x
    front x l = get_or-append reached (drop M.size work) 0 x (omega arith)
