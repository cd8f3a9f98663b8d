-- The two lists of a splitting in the work slice, number by number. Rests on the laws of parts of a list.
use mathlib.Core.Path.{◌≡◌, sym, ◌∙◌}
use mathlib.Core.List.{List}
use Prim.Native.Nat.{ℕ, ◌+◌, ◌*◌, ◌≤◌, ◌<◌}
use native.Mathlib.Omega.{arith}
use lib.ListN.{length}
use lib.Seq.{ext_get_or}
use Rattle.counting.specs.Lists.{at}
use Rattle.counting.proofs.Parts.{part_at, part_long}
use Rattle.refining.specs.Lists.{Split}
use Rattle.splitting.specs.Work.{class_in, pending_in, lists_in}

-- two lists are a splitting's that has their numbers
pub split_is : (n : ℕ) (class pending : List ℕ) (s : Split) → (length class ≡ n) × (length pending ≡ n) → (length s.class ≡ n) × (length s.pending ≡ n)
    → ((x : ℕ) → x < n → at class x ≡ at s.class x)
    → ((x : ℕ) → x < n → at pending x ≡ at s.pending x)
    → record { class = class; pending = pending } ≡ s
split_is n class pending s room long c p =
    let e : class ≡ s.class = ext_get_or 0 class s.class (room.0 ∙ sym long.0) (λ x l. c x (omega (arith, room.0))) in
    let f : pending ≡ s.pending = ext_get_or 0 pending s.pending (room.1 ∙ sym long.1) (λ x l. p x (omega (arith, room.1))) in
    λ i. record { class = e i; pending = f i }

-- the two lists in the work slice are a splitting's that has their numbers
pub lists_are : (n : ℕ) (work : List ℕ) (s : Split) → 8 * n ≤ length work → (length s.class ≡ n) × (length s.pending ≡ n)
    → ((x : ℕ) → x < n → at work (6 * n + x) ≡ at s.class x)
    → ((x : ℕ) → x < n → at work (7 * n + x) ≡ at s.pending x)
    → lists_in n work ≡ s
lists_are n work s room long c p =
    split_is n (class_in n work) (pending_in n work) s (part_long n (6 * n) work (omega arith), part_long n (7 * n) work (omega arith)) long
    (λ x l. part_at n (6 * n) work x l ∙ c x l)
    (λ x l. part_at n (7 * n) work x l ∙ p x l)
