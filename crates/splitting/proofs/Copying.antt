-- Both lists put into the work slice: what stands there then.
use mathlib.Core.Path.{◌≡◌, sym, ◌∙◌}
use mathlib.Core.List.{List}
use Prim.Native.Nat.{ℕ, ◌+◌, ◌*◌, ◌≤◌}
use native.Mathlib.Omega.{arith}
use lib.ListN.{length}
use lib.Seq.{get_or-take, length-take-le}
use Rattle.counting.specs.Lists.{at}
use Rattle.splitting.specs.Work.{lists, lists_in}
use Rattle.splitting.specs.Running.{PutIn}
use Rattle.splitting.proofs.Places.{lists_are}

-- both lists put in
module _ (n : ℕ) (class pending work mid full : List ℕ) (class_room : n ≤ length class) (pending_room : n ≤ length pending) (room : 8 * n ≤ length work)
    (c : PutIn class (6 * n) n work mid) (p : PutIn pending (7 * n) n mid full) where
  pub full_long : length full ≡ length work
  full_long = p.long ∙ c.long

  pub full_beyond : (i : ℕ) → 8 * n ≤ i → at full i ≡ at work i
  full_beyond i l = p.beyond i (omega arith) ∙ c.beyond i (omega arith)

  pub full_lists : lists_in n full ≡ lists n class pending
  full_lists =
      lists_are n full (lists n class pending) (omega (arith, full_long)) (length-take-le n class class_room, length-take-le n pending pending_room)
      (λ x l. p.below (6 * n + x) (omega arith) ∙ c.put x l ∙ sym (get_or-take n class x 0 l))
      (λ x l. p.put x l ∙ sym (get_or-take n pending x 0 l))
