-- Lent memory told apart number by number: what is cleared at its front, and what is written there.
use mathlib.Core.Path.{◌≡◌, sym, ap, ap₂, subst, ◌∙◌}
use mathlib.Core.Logic.{◌≢◌}
use mathlib.Core.List.{List, ◌++◌}
use Prim.Native.Nat.{ℕ, ◌+◌, ◌*◌, ◌-◌, ◌≤◌, ◌<◌}
use native.Mathlib.Decide.{dec_lt, ℕ_discrete}
use native.Mathlib.Omega.{arith}
use native.Mathlib.Nat.{mul-le-mul_right}
use lib.ListN.{length, get_or, set, drop, take, replicate, length-drop, length-take, take-append-drop, length-append, length-replicate, get_or-replicate, get_or-append}
use lib.Seq.{take_at, drop_at, get_or-take, get_or-drop, get_or-append-add, get_or-set_same, get_or-set_other, ext_get_or}
use Rattle.counting.specs.Lists.{at}
use Rattle.lending.specs.Memory.{cleared, written}

-- lists that agree from a place on have one rest there
pub drop_same : (m : ℕ) (v w : List ℕ) → length v ≡ length w → ((j : ℕ) → m ≤ j → at v j ≡ at w j) → drop m v ≡ drop m w
drop_same m v w long same =
    ext_get_or 0 (drop m v) (drop m w) (length-drop m v ∙ ap (λ (l : ℕ). l - m) long ∙ sym (length-drop m w))
    (λ i l. get_or-drop m v i 0 ∙ same (m + i) (omega arith) ∙ sym (get_or-drop m w i 0))

pub cleared_same : (m : ℕ) (v w : List ℕ) → length v ≡ length w → ((j : ℕ) → m ≤ j → at v j ≡ at w j) → cleared m v ≡ cleared m w
unfolding cleared
cleared_same m v w long same = ap (λ (rest : List ℕ). replicate m 0 ++ rest) (drop_same m v w long same)

pub cleared-length : (m : ℕ) (w : List ℕ) → m ≤ length w → length (cleared m w) ≡ length w
unfolding cleared
cleared-length m w room =
    let none : ℕ = 0 in
    omega (arith, length-append (replicate m none) (drop m w), length-replicate m none, length-drop m w)

-- number by number: 0 at the front, behind it what was there
pub cleared_at : (m : ℕ) (w : List ℕ) (i : ℕ) → i < m → at (cleared m w) i ≡ 0
unfolding cleared
cleared_at m w i l =
    let none : ℕ = 0 in
    get_or-append (replicate m none) (drop m w) 0 i (omega (arith, length-replicate m none)) ∙ get_or-replicate m i none 0 l

pub cleared_beyond : (m : ℕ) (w : List ℕ) (i : ℕ) → m ≤ i → at (cleared m w) i ≡ at w i
unfolding cleared
cleared_beyond m w i l =
    let none : ℕ = 0 in
    let place : i ≡ length (replicate m none) + (i - m) = omega (arith, length-replicate m none) in
    let back : m + (i - m) ≡ i = omega arith in
    ap (λ (j : ℕ). get_or (replicate m none ++ drop m w) j 0) place
    ∙ get_or-append-add (replicate m none) (drop m w) (i - m) 0
    ∙ get_or-drop m w (i - m) 0
    ∙ ap (at w) back

-- what has the result at its front, and behind it what was there
pub written_is : (result lent after : List ℕ) → length after ≡ length lent → length result ≤ length lent
    → ((j : ℕ) → j < length result → at after j ≡ at result j)
    → ((j : ℕ) → length result ≤ j → at after j ≡ at lent j)
    → after ≡ written result lent
unfolding written
written_is result lent after long room front behind =
    sym (take-append-drop (length result) after)
    ∙ ap₂ ◌++◌ (ext_get_or 0 (take (length result) after) result (omega (arith, length-take (length result) after))
    (λ i l. let m : i < length result = omega (arith, length-take (length result) after) in get_or-take (length result) after i 0 m ∙ front i m))
    (drop_same (length result) after lent long behind)

pub written-length : (result lent : List ℕ) → length result ≤ length lent → length (written result lent) ≡ length lent
unfolding written
written-length result lent room = omega (arith, length-append result (drop (length result) lent), length-drop (length result) lent)

-- the result stands at the front
pub written_front : (m : ℕ) (result lent : List ℕ) → length result ≡ m → take m (written result lent) ≡ result
unfolding written
written_front m result lent long = take_at result (drop (length result) lent) m long

-- a result written over another of its length leaves nothing of it
pub written_over : (result former lent : List ℕ) → length result ≡ length former → written result (written former lent) ≡ written result lent
unfolding written
written_over result former lent long =
    ap (λ (rest : List ℕ). result ++ rest)
    (drop_at former (drop (length former) lent) (length result) (sym long) ∙ ap (λ (m : ℕ). drop m lent) (sym long))

-- what holds of a number stored, and of each other number before, holds of each after
pub set_each : (P : ℕ → ℕ → Type 0) (w : List ℕ) (r v n : ℕ) → r < length w → P r v → ((z : ℕ) → z < n → z ≢ r → P z (at w z)) → (z : ℕ) → z < n → P z (at (set w r v) z)
set_each P w r v n room here rest z l =
    elim (ℕ_discrete z r) [
      | yes e ↦ subst (λ (y : ℕ). P y (at (set w r v) y)) (sym e) (subst (P r) (sym (get_or-set_same w r v 0 room)) here)
      | no d ↦ subst (P z) (sym (get_or-set_other w r z v 0 d)) (rest z l d)
    ]

-- places of columns of n numbers differ where the places within the columns do
pub columns_apart : (n c d i j : ℕ) → i < n → j < n → i ≢ j → c * n + i ≢ d * n + j
columns_apart n c d i j l m u e =
    elim (dec_lt c d) [
      | yes h ↦ omega (arith, mul-le-mul_right n h)
      | no h ↦ elim (dec_lt d c) [ yes k ↦ omega (arith, mul-le-mul_right n k) | no k ↦ let f : c ≡ d = omega arith in u (omega (arith, ap (λ (z : ℕ). z * n) f)) ]
    ]
