-- The marks and next states of a file's machine, which stand in its fields' bodies, by their places in the file. Rests on the laws of parts.
use mathlib.Core.Path.{◌≡◌}
use mathlib.Core.List.{List}
use Prim.Native.Nat.{ℕ, ◌+◌, ◌*◌, ◌<◌}
use native.Mathlib.Omega.{arith}
use lib.Arith.{digits_lt}
use lib.ListN.{get_or}
use Rattle.lending.specs.Pairs.{pair_at}
use Rattle.table.specs.Judging.{states_of, signs_of}
use Rattle.table.specs.Encoding.{machine_of}
use Rattle.table.proofs.Contents.{part_at, part_pair}

pub next_within : (n k q a : ℕ) → q < n → a < k → 2 * (q * k + a) + 1 < 2 * (n * k)
next_within n k q a h l = omega (arith, digits_lt {q = q} {m = n} {r = a} {c = k} h l)

module _ (file : List ℕ) where
  pub mark_read : (q : ℕ) → q < states_of file → (machine_of file).kind q ≡ get_or file (12 + q) 0
  mark_read q h = part_at file 12 _ q h

  pub next_read : (q a : ℕ) → q < states_of file → a < signs_of file → (machine_of file).next q a ≡ pair_at file (12 + states_of file + 3 + 2 * (q * signs_of file + a))
  next_read q a h l = part_pair file (12 + states_of file + 3) _ _ (next_within _ _ q a h l)
