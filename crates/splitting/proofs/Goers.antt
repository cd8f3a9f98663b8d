-- The first state that goes from a class, and how many go, with one state more.
use mathlib.Core.Path.{◌≡◌, refl, sym, ap, ◌∙◌}
use mathlib.Core.Logic.{◌≢◌}
use mathlib.Core.Bool.{Bool, true, false, not, ◌&&◌, beq, true≢false}
use mathlib.Core.List.{List}
use Prim.Native.Nat.{ℕ, suc, ◌+◌, ◌<◌}
use native.Mathlib.Numerals.{add-one}
use native.Mathlib.Decide.{ℕ_discrete}
use native.Mathlib.Omega.{arith}
use borrow.Author.Tests.{eq-eqb, ne_eqb, lt-ltb, le-ltb}
use lib.Dec.{eqb, ltb}
use Rattle.counting.specs.Lists.{at}
use Rattle.counting.specs.Least.{pick, least}
use Rattle.counting.specs.Counts.{count}
use Rattle.counting.proofs.Leasts.{IsLeast, least_is, least_unique, least_first, least_at, least-past}
use Rattle.automaton.specs.Machine.{Machine}
use Rattle.splitting.specs.Work.{leads_to, goes_by, goer, first_goer, Classed}

-- the first that passes, 0 where none does
abbrev first : ℕ → (ℕ → Bool) → ℕ
first x P = pick (ltb (least x P) x) (least x P) 0

first_past : (x : ℕ) (P : ℕ → Bool) → P x ≡ false → first (x + 1) P ≡ first x P
unfolding pick
first_past x P e =
    let s : IsLeast x P (least x P) = least_is x P in
    let t = least_unique (suc x) P _ (least-past x P (least x P) s e) in
    rw (add-one x)
    (elim (ℕ_discrete (least x P) x) [
      | yes z ↦ (let k : least (suc x) P ≡ suc x = t ∙ rw (eq-eqb (least x P) x z) refl in rw (le-ltb (least (suc x) P) (suc x) (omega arith), le-ltb (least x P) x (omega arith)) refl)
      | no z ↦ (let k : least (suc x) P ≡ least x P = t ∙ rw (ne_eqb (least x P) x z) refl in rw (lt-ltb (least (suc x) P) (suc x) (omega (arith, s.within)), lt-ltb (least x P) x (omega (arith, s.within))) k)
    ])

first-at : (x : ℕ) (P : ℕ → Bool) → P x ≡ true → P 0 ≡ false → first (x + 1) P ≡ pick (eqb (first x P) 0) x (first x P)
unfolding pick
first-at x P e z =
    let s : IsLeast x P (least x P) = least_is x P in
    let t : least (suc x) P ≡ least x P = least_unique (suc x) P _ (least_at x P (least x P) s e) in
    rw (add-one x, lt-ltb (least (suc x) P) (suc x) (omega (arith, s.within)))
    (elim (ℕ_discrete (least x P) x) [
      | yes y ↦ rw (le-ltb (least x P) x (omega arith)) (t ∙ y)
      | no y ↦
          (let u : least x P ≢ 0 = λ w. true≢false (sym (s.holds (omega (arith, s.within))) ∙ ap P w ∙ z) in
          rw (lt-ltb (least x P) x (omega (arith, s.within)), ne_eqb (least x P) 0 u) t)
    ])

-- the first of all is the first up to one that passes
first-all : (n x : ℕ) (P : ℕ → Bool) → x < n → P x ≡ true → first (x + 1) P ≡ least n P
unfolding pick
first-all n x P l e =
    let s : IsLeast (suc x) P (least (suc x) P) = least_is (suc x) P in
    let k : least (suc x) P < suc x = elim (ℕ_discrete (least (suc x) P) (suc x)) [
      | yes z ↦ absurd (true≢false (sym e ∙ s.before x (omega arith)))
      | no z ↦ omega (arith, s.within)
    ] in
    rw (add-one x, lt-ltb (least (suc x) P) (suc x) k) (sym (least_first n P (least (suc x) P) (omega arith) (s.holds k) s.before))

beq_self : (b : Bool) → beq b b ≡ true
beq_self true = refl
beq_self false = refl

module _ (M : Machine) (class : List ℕ) (q a : ℕ) where
  -- state 0 is its own class and never goes
  goer_start : (n c : ℕ) → 0 < n → Classed n class → goer M class q a c 0 ≡ false
  unfolding goer goes_by
  goer_start n c l h =
      let z : at class 0 ≡ 0 = omega (arith, h.low 0 l) in
      rw (z, beq_self (leads_to M class q a 0)) (never (eqb 0 c))
    where
      never : (b : Bool) → (b && not true) ≡ false
      never true = refl
      never false = refl

  goer_own : (c x : ℕ) → at class x ≡ c → goer M class q a c x ≡ goes_by M class q a x
  unfolding goer
  goer_own c x e = rw (eq-eqb (at class x) c e) refl

  goer_else : (c x : ℕ) → at class x ≢ c → goer M class q a c x ≡ false
  unfolding goer
  goer_else c x u = rw (ne_eqb (at class x) c u) refl

  -- of another class nothing changes
  pub first_other : (c x : ℕ) → at class x ≢ c → first_goer M class q a (x + 1) c ≡ first_goer M class q a x c
  unfolding first_goer
  first_other c x u = first_past x (goer M class q a c) (goer_else c x u)

  pub count_other : (c x : ℕ) → at class x ≢ c → count (x + 1) (goer M class q a c) ≡ count x (goer M class q a c)
  unfolding count pick
  count_other c x u = rw (add-one x, goer_else c x u) (omega arith)

  -- of the state's own class
  pub first_own : (n c x : ℕ) → x < n → Classed n class → at class x ≡ c → pick (goes_by M class q a x && eqb (first_goer M class q a x c) 0) x (first_goer M class q a x c) ≡ first_goer M class q a (x + 1) c
  unfolding pick first_goer
  first_own n c x l h e = by (goes_by M class q a x) refl
    where
      by : (b : Bool) → goes_by M class q a x ≡ b → pick (b && eqb (first_goer M class q a x c) 0) x (first_goer M class q a x c) ≡ first_goer M class q a (x + 1) c
      by true t = sym (first-at x (goer M class q a c) (goer_own c x e ∙ t) (goer_start n c (omega arith) h))
      by false t = sym (first_past x (goer M class q a c) (goer_own c x e ∙ t))

  pub count_own : (c x : ℕ) → at class x ≡ c → pick (goes_by M class q a x) (count x (goer M class q a c) + 1) (count x (goer M class q a c)) ≡ count (x + 1) (goer M class q a c)
  unfolding pick count
  count_own c x e = rw (add-one x, goer_own c x e) (by (goes_by M class q a x))
    where
      by : (b : Bool) → pick b (count x (goer M class q a c) + 1) (count x (goer M class q a c)) ≡ count x (goer M class q a c) + pick b 1 0
      by true = refl
      by false = omega arith

  pub name_own : (n c x : ℕ) → x < n → at class x ≡ c → pick (goes_by M class q a x) (first_goer M class q a (x + 1) c) c ≡ pick (goes_by M class q a x) (least n (goer M class q a c)) c
  unfolding pick first_goer
  name_own n c x l e = by (goes_by M class q a x) refl
    where
      by : (b : Bool) → goes_by M class q a x ≡ b → pick b (first_goer M class q a (x + 1) c) c ≡ pick b (least n (goer M class q a c)) c
      by true t = first-all n x (goer M class q a c) l (goer_own c x e ∙ t)
      by false t = refl
