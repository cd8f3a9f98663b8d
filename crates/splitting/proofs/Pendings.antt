-- The pending list of a fresh start: the first state that has the mark due, and the marks that occur.
use mathlib.Core.Path.{◌≡◌, refl}
use mathlib.Core.Bool.{Bool, true, false, not, ◌&&◌}
use mathlib.Core.List.{List}
use Prim.Native.Nat.{ℕ, zero, suc, ◌+◌, ◌≤◌, ◌<◌}
use native.Mathlib.Decide.{ℕ_discrete}
use native.Mathlib.Omega.{arith}
use lib.Dec.{eqb}
use Rattle.std.specs.Prelude.{Some, None}
use Rattle.counting.specs.Lists.{at}
use Rattle.counting.specs.Least.{pick}
use Rattle.counting.specs.Counts.{any, count}

-- whether a state is the first that has the mark due
abbrev pub is_first : ℕ → List ℕ → ℕ → Bool
is_first due marks q = eqb (at marks q) due && not (any q (λ y. eqb (at marks y) due))

pub waiting_small : (t : Bool) (k : ℕ) → pick t k 0 ≤ k
unfolding pick
waiting_small true k = omega arith
waiting_small false k = omega arith

-- every state has one of the two marks
pub marks_both : (n : ℕ) (f : ℕ → ℕ) → ((q : ℕ) → q < n → f q < 2) → count n (λ x. eqb (f x) 1) + count n (λ x. eqb (f x) 0) ≡ n
unfolding count pick
marks_both zero f h = refl
marks_both (suc n) f h = elim (ℕ_discrete (f n) 0) [
  | yes e ↦ rw e (omega (arith, marks_both n f (λ q l. h q (omega arith))))
  | no u ↦
      let e : f n ≡ 1 = omega (arith, h n (omega arith)) in
      rw e (omega (arith, marks_both n f (λ q l. h q (omega arith))))
]

-- what waits by the mark due is what waits by the rule, where both marks occur; and nothing waits by the rule where not
pub some_due : (both named : Bool) (m d due k : ℕ) → Some due ≡ pick both (Some d) None → pick (named && eqb m due) k 0 ≡ pick (both && named && eqb m d) k 0
unfolding pick
some_due true named m d due k e = let f : due ≡ d = cc in rw f refl
some_due false named m d due k e = cc

pub none_due : (both named : Bool) (m d k : ℕ) → None ≡ pick both (Some d) None → 0 ≡ pick (both && named && eqb m d) k 0
unfolding pick
none_due true named m d k e = cc
none_due false named m d k e = refl

pub none_waits : (t : Bool) (k : ℕ) → k ≡ 0 → pick t k 0 ≡ 0
none_waits t k e = omega (arith, e, waiting_small t k)
