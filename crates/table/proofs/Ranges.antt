-- `outside` is true exactly of the sizes that are not in range.
use mathlib.Core.Path.{◌≡◌, refl, sym, ◌∙◌}
use mathlib.Core.Logic.{◌≢◌}
use mathlib.Core.Bool.{Bool, true, false, true≢false}
use Prim.Native.Nat.{ℕ, ◌*◌}
use native.Mathlib.Omega.{arith}
use borrow.Author.Tests.{ltb-false, eqb-false, le-ltb, ne_eqb}
use Rattle.counting.proofs.Cases.{neither}
use Rattle.table.specs.Judging.{outside}
use Rattle.table.specs.Rows.{InRange}

pub in-range : (n k : ℕ) → outside n k ≡ false → InRange n k
unfolding outside
in-range n k e =
    let e₁ = neither _ _ e in
    let e₂ = neither _ _ e₁.0 in
    let e₃ = neither _ _ e₂.0 in
    let e₄ = neither _ _ e₃.0 in
    let n-some : n ≢ 0 = eqb-false n 0 e₄.0 in
    let k-some : k ≢ 0 = eqb-false k 0 e₃.1 in
    record {
      some_state = omega arith;
      states_most = ltb-false 1024 n e₄.1;
      some_sign = omega arith;
      signs_most = ltb-false 64 k e₂.1;
      nexts_most = ltb-false 32000 (n * k) e₁.1;
    }

pub not-outside : (n k : ℕ) → InRange n k → outside n k ≡ false
unfolding outside
not-outside n k r =
    rw (ne_eqb n 0 (omega arith), le-ltb _ _ r.states_most, ne_eqb k 0 (omega arith), le-ltb _ _ r.signs_most, le-ltb _ _ r.nexts_most)

pub not_in_range : (n k : ℕ) → outside n k ≡ true → InRange n k → ⊥
not_in_range n k e r = true≢false (sym e ∙ not-outside n k r)

pub is-outside : (n k : ℕ) → (InRange n k → ⊥) → outside n k ≡ true
is-outside n k u = by (outside n k) refl
  where
    by : (t : Bool) → outside n k ≡ t → outside n k ≡ true
    by true e = e
    by false e = absurd (u (in-range n k e))
