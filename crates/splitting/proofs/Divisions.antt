-- The classes that a take splits: the first state of each that goes, three kinds of names, and how many states each part has. Rests on classes being named by a state not greater.
use mathlib.Core.Path.{◌≡◌, refl, sym, ap, ap₂, subst, ◌∙◌}
use mathlib.Core.Logic.{◌≢◌}
use mathlib.Core.Bool.{Bool, true, false, not, ◌&&◌, beq, true≢false, and-true as and-on, and-false}
use mathlib.Core.List.{List}
use Prim.Native.Nat.{ℕ, ◌+◌, ◌<◌}
use native.Mathlib.Decide.{ℕ_discrete, dec_lt}
use native.Mathlib.Omega.{arith}
use borrow.Author.Tests.{eq-eqb, ne_eqb, eqb-true, ltb-true, lt-ltb}
use lib.Dec.{eqb, ltb}
use Rattle.counting.specs.Lists.{at}
use Rattle.counting.specs.Least.{pick, least}
use Rattle.counting.specs.Counts.{count}
use Rattle.counting.proofs.Cases.{by_test}
use Rattle.counting.proofs.Leasts.{least_is}
use Rattle.counting.proofs.Tallies.{and-true, count_cong, count_some, count_none, count_split}
use Rattle.automaton.specs.Machine.{Machine}
use Rattle.splitting.specs.Work.{leads_to, goes_by, goer, first_goer, Classed}

-- The first of class c that goes.
pub record IsFirst (M : Machine) (class : List ℕ) (q a c r : ℕ) : Type 0 where
  pub within : r < M.size
  pub above : c < r
  pub in_class : at class r ≡ c
  pub going : goes_by M class q a r ≡ true
  pub least_is : least M.size (goer M class q a c) ≡ r

module _ (M : Machine) (class : List ℕ) (q a : ℕ) (classed : Classed M.size class) where
  abbrev n : ℕ
  n = M.size

  abbrev f : ℕ → ℕ
  f x = at class x

  abbrev g : ℕ → Bool
  g x = goes_by M class q a x

  -- the least that goes from a class, and the same or 0
  abbrev low : ℕ → ℕ
  low c = least M.size (goer M class q a c)

  abbrev first : ℕ → ℕ
  first c = first_goer M class q a M.size c

  -- how many keep a class's name, and how many go
  abbrev pub kept : ℕ → ℕ
  kept c = count M.size (λ x. eqb (at class x) c && not (goes_by M class q a x))

  abbrev pub gone : ℕ → ℕ
  gone c = count M.size (goer M class q a c)

  -- the class of a state after the take
  abbrev pub after : ℕ → ℕ
  after x = pick (goes_by M class q a x) (least M.size (goer M class q a (at class x))) (at class x)

  -- a class's name stays
  name_keeps : (x : ℕ) → x < n → g (f x) ≡ false
  unfolding goes_by
  name_keeps x l = rw (classed.named x l) (elim (leads_to M class q a (f x)) as (λ b. not (beq b b) ≡ false) [ true ↦ refl | false ↦ refl ])

  low_is : (c : ℕ) → low c < n → IsFirst M class q a c (low c)
  unfolding goer
  low_is c l = record { within = l; above = over (ℕ_discrete c r); in_class = e; going = both.1; least_is = refl }
    where
      r : ℕ
      r = low c

      both : (eqb (f r) c ≡ true) × (g r ≡ true)
      both = and-true _ _ ((least_is n (goer M class q a c)).holds l)

      e : f r ≡ c
      e = eqb-true _ _ both.0

      over : Dec (c ≡ r) → c < r
      over (yes h) = absurd (true≢false (sym both.1 ∙ ap g (sym (e ∙ h)) ∙ name_keeps r l))
      over (no u) = omega (arith, classed.low r l, e)

  first_low : (c : ℕ) → low c < n → first c ≡ low c
  unfolding first_goer pick
  first_low c l = rw (lt-ltb (low c) n l) refl

  -- where the first is not 0 it is the first that goes
  pub first_is : (c : ℕ) → first c ≢ 0 → IsFirst M class q a c (first c)
  unfolding first_goer pick
  first_is c u =
      by_test (ltb (low c) n)
      (λ t. let l : low c < n = ltb-true _ _ t in subst (IsFirst M class q a c) (sym (first_low c l)) (low_is c l))
      (λ t. absurd (u (ap (λ (b : Bool). pick b (low c) 0) t)))

  goer_is : (c x : ℕ) → f x ≡ c → g x ≡ true → goer M class q a c x ≡ true
  unfolding goer
  goer_is c x e t = ap₂ ◌&&◌ (eq-eqb (f x) c e) t

  -- a state that goes is named by the first of its class that does
  pub new_name : (x : ℕ) → x < n → g x ≡ true → (first (f x) ≢ 0) × (low (f x) ≡ first (f x))
  new_name x l t = ((λ z. omega (arith, (low_is (f x) m).above, e)), sym e)
    where
      m : low (f x) < n
      m = elim (dec_lt x (low (f x))) [
        | yes h ↦ absurd (true≢false (sym (goer_is (f x) x refl t) ∙ (least_is n (goer M class q a (f x))).before x h))
        | no u ↦ omega arith
      ]

      e : first (f x) ≡ low (f x)
      e = first_low (f x) m

  none_go : (c x : ℕ) → x < n → first c ≡ 0 → goer M class q a c x ≡ false
  unfolding goer
  none_go c x l z = by_test (goer M class q a c x)
      (λ t. let (e, h) = and-true (eqb (f x) c) (g x) t in absurd ((new_name x l h).0 (ap first (eqb-true _ _ e) ∙ z)))
      (λ t. t)

  pub gone_none : (c : ℕ) → first c ≡ 0 → gone c ≡ 0
  gone_none c z = count_none n (goer M class q a c) (λ x l. none_go c x l z)

  pub gone_some : (c : ℕ) → first c ≢ 0 → gone c ≢ 0
  gone_some c u z =
      let i = first_is c u in
      omega (arith, count_some n (goer M class q a c) (first c) i.within (goer_is c (first c) i.in_class i.going))

  -- the first, told apart: it is a state, above its class's name, of no class's name, and of one class
  pub first_in : (c : ℕ) → c < n → first c < n
  first_in c l = elim (ℕ_discrete (first c) 0) [ yes z ↦ omega arith | no u ↦ (first_is c u).within ]

  pub first_none : (c : ℕ) → first c ≢ 0 → first (first c) ≡ 0
  first_none c u = elim (ℕ_discrete (first (first c)) 0) [
    | yes z ↦ z
    | no v ↦
        (let i = first_is c u in
        let j = first_is (first c) v in
        absurd (true≢false (sym i.going ∙ ap g (sym j.in_class) ∙ name_keeps (first (first c)) j.within)))
  ]

  pub first_one : (c d : ℕ) → first c ≢ 0 → first c ≡ first d → c ≡ d
  first_one c d u e = sym (first_is c u).in_class ∙ ap f e ∙ (first_is d (λ z. u (e ∙ z))).in_class

  -- the kept name of a class that is split, a new name, and any other
  pub by_part : {A : Type 0} (y : ℕ) → y < n → (first y ≢ 0 → A) → (first (f y) ≢ 0 → y ≡ first (f y) → A)
      → (first y ≡ 0 → ((p : ℕ) → p < n → first p ≢ 0 → y ≢ first p) → A)
      → A
  by_part y l old new other = elim (ℕ_discrete (first y) 0) [
    | no u ↦ old u
    | yes z ↦ elim (ℕ_discrete (first (f y)) 0) [
      | yes w ↦ other z (λ p m u e. u (ap first (sym (first_is p u).in_class ∙ ap f (sym e)) ∙ w))
      | no v ↦ elim (ℕ_discrete y (first (f y))) [
        | yes e ↦ new v e
        | no d ↦ other z (λ p m u e. d (e ∙ ap first (sym (first_is p u).in_class ∙ ap f (sym e))))
      ]
    ]
  ]

  pub size_parts : (c : ℕ) → kept c + gone c ≡ count n (λ x. eqb (f x) c)
  unfolding goer
  size_parts c = count_split n (λ x. eqb (f x) c) g

  after_goes : (x : ℕ) → x < n → g x ≡ true → after x ≡ first (f x)
  unfolding pick
  after_goes x l t = rw t (new_name x l t).1

  after_stays : (x : ℕ) → g x ≡ false → after x ≡ f x
  unfolding pick
  after_stays x t = rw t refl

  pub size_kept : (c : ℕ) → first c ≢ 0 → count n (λ x. eqb (after x) c) ≡ kept c
  size_kept c u = count_cong n _ _ each
    where
      i : IsFirst M class q a c (first c)
      i = first_is c u

      stays : g c ≡ false
      stays = ap g (sym i.in_class) ∙ name_keeps (first c) i.within

      each : (x : ℕ) → x < n → eqb (after x) c ≡ (eqb (f x) c && not (g x))
      each x l = by_test (g x)
          (λ t. ne_eqb (after x) c (λ e. true≢false (sym (first_is (f x) (new_name x l t).0).going ∙ ap g (sym (after_goes x l t) ∙ e) ∙ stays)) ∙ sym (ap (λ (b : Bool). eqb (f x) c && not b) t ∙ and-false (eqb (f x) c)))
          (λ t. ap (λ (y : ℕ). eqb y c) (after_stays x t) ∙ sym (ap (λ (b : Bool). eqb (f x) c && not b) t ∙ and-on (eqb (f x) c)))

  pub size_new : (p : ℕ) → first p ≢ 0 → count n (λ x. eqb (after x) (first p)) ≡ gone p
  unfolding goer
  size_new p u = count_cong n _ _ each
    where
      i : IsFirst M class q a p (first p)
      i = first_is p u

      one : (x : ℕ) → Dec (f x ≡ p) → first (f x) ≢ 0 → eqb (first (f x)) (first p) ≡ eqb (f x) p
      one x (yes e) v = eq-eqb (first (f x)) (first p) (ap first e) ∙ sym (eq-eqb (f x) p e)
      one x (no d) v = ne_eqb (first (f x)) (first p) (λ e. d (first_one (f x) p v e)) ∙ sym (ne_eqb (f x) p d)

      each : (x : ℕ) → x < n → eqb (after x) (first p) ≡ (eqb (f x) p && g x)
      each x l = by_test (g x)
          (λ t. ap (λ (y : ℕ). eqb y (first p)) (after_goes x l t) ∙ one x (ℕ_discrete (f x) p) (new_name x l t).0 ∙ sym (ap (λ (b : Bool). eqb (f x) p && b) t ∙ and-on (eqb (f x) p)))
          (λ t. ne_eqb (after x) (first p) (λ e. true≢false (sym i.going ∙ ap g (sym e ∙ after_stays x t) ∙ name_keeps x l)) ∙ sym (ap (λ (b : Bool). eqb (f x) p && b) t ∙ and-false (eqb (f x) p)))

  pub size_other : (c : ℕ) → first c ≡ 0 → ((p : ℕ) → p < n → first p ≢ 0 → c ≢ first p) → count n (λ x. eqb (after x) c) ≡ count n (λ x. eqb (f x) c)
  size_other c z u = count_cong n _ _ each
    where
      each : (x : ℕ) → x < n → eqb (after x) c ≡ eqb (f x) c
      each x l = by_test (g x)
          (λ t.
          let v : first (f x) ≢ 0 = (new_name x l t).0 in
          ne_eqb (after x) c (λ e. u (f x) (omega (arith, classed.low x l)) v (sym e ∙ after_goes x l t)) ∙ sym (ne_eqb (f x) c (λ e. v (ap first e ∙ z))))
          (λ t. ap (λ (y : ℕ). eqb y c) (after_stays x t))
