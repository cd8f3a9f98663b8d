-- Laws of `name` for any test that is an equivalence: the name is the least number alike.
use mathlib.Core.Path.{◌≡◌, sym, subst}
use mathlib.Core.Logic.{◌↔◌}
use mathlib.Core.Bool.{Bool, true}
use Prim.Native.Nat.{ℕ, suc, ◌≤◌, ◌<◌}
use native.Mathlib.Omega.{arith}
use native.Mathlib.Decide.{dec_lt}
use Rattle.counting.specs.Least.{name}
use Rattle.counting.proofs.Leasts.{IsLeast, least_is}

-- A test that is an equivalence.
pub record Alike (same : ℕ → ℕ → Bool) : Type 0 where
  pub self : (x : ℕ) → same x x ≡ true
  pub back : (x y : ℕ) → same x y ≡ true → same y x ≡ true
  pub over : (x y z : ℕ) → same x y ≡ true → same y z ≡ true → same x z ≡ true

module _ (same : ℕ → ℕ → Bool) (e : Alike same) where
  is : (x : ℕ) → IsLeast (suc x) (λ y. same y x) (name same x)
  unfolding name
  is x = least_is (suc x) (λ y. same y x)

  pub name_le : (x : ℕ) → name same x ≤ x
  name_le x = by (dec_lt x (name same x))
    where
      by : Dec (x < name same x) → name same x ≤ x
      by (yes l) = let z : ◌≡◌ {A = ℕ} 0 1 = cc (e.self x, (is x).before x l) in omega arith
      by (no u) = omega arith

  pub name_alike : (x : ℕ) → same (name same x) x ≡ true
  name_alike x = (is x).holds (let l : name same x ≤ x = name_le x in omega arith)

  -- no smaller number is alike
  pub name-least : (x y : ℕ) → same y x ≡ true → name same x ≤ y
  name-least x y s = by (dec_lt y (name same x))
    where
      by : Dec (y < name same x) → name same x ≤ y
      by (yes l) = let z : ◌≡◌ {A = ℕ} 0 1 = cc ((is x).before y l) in omega arith
      by (no u) = omega arith

  -- one name exactly when alike
  pub name_iff : (x y : ℕ) → (name same x ≡ name same y) ↔ (same x y ≡ true)
  name_iff x y = (from, to)
    where
      from : name same x ≡ name same y → same x y ≡ true
      from h = e.over x (name same x) y (e.back (name same x) x (name_alike x)) (subst (λ (z : ℕ). same z y ≡ true) (sym h) (name_alike y))

      to : same x y ≡ true → name same x ≡ name same y
      to s =
          let l : name same y ≤ name same x = name-least y (name same x) (e.over (name same x) x y (name_alike x) s) in
          let m : name same x ≤ name same y = name-least x (name same y) (e.over (name same y) y x (name_alike y) (e.back x y s)) in
          omega arith

  pub name-name : (x : ℕ) → name same (name same x) ≡ name same x
  name-name x = (name_iff (name same x) x).1 (name_alike x)
