-- The rows in rising order are a list of rows; and where every state is reached and alone in its class they are 0, 1, 2, ..
use mathlib.Core.Path.{◌≡◌, refl, subst, ap₂}
use mathlib.Core.Bool.{Bool, true, false, ◌&&◌}
use Prim.Native.Nat.{ℕ, ◌<◌}
use native.Mathlib.Omega.{arith}
use native.Mathlib.Decide.{dec_lt}
use borrow.Author.Tests.{eq-eqb, eqb-true}
use lib.Dec.{eqb}
use lib.ListN.{length, get_or}
use Rattle.counting.specs.Lists.{at, tab}
use Rattle.counting.specs.Counts.{any}
use Rattle.counting.proofs.Tallies.{and-true, any_iff}
use Rattle.counting.proofs.Thoses.{those_pass, those_here, those_rise, those-all}
use Rattle.automaton.specs.Machine.{Machine, Lawful}
use Rattle.automaton.specs.Words.{Reached}
use Rattle.automaton.specs.Layers.{classes}
use Rattle.automaton.specs.Reach.{reachable}
use Rattle.automaton.specs.Quotient.{rows, rows_for, RowsOf, Connected, Collapsed}
use Rattle.automaton.proofs.Settling.{classes-in, classes_member}
use Rattle.automaton.proofs.Reaching.{reachable_iff}

module _ (M : Machine) (lawful : Lawful M) where
  -- the class holds a reachable state
  abbrev held : ℕ → ℕ → Bool
  held c q = get_or (reachable M) q false && eqb (at (classes M) q) c

  abbrev is_row : ℕ → Bool
  is_row c = any M.size (held c)

  is-row : (q : ℕ) → q < M.size → Reached M q → is_row (at (classes M) q) ≡ true
  is-row q l r =
      (any_iff M.size (held (at (classes M) q))).1 (q, l, ap₂ ◌&&◌ ((reachable_iff M lawful q l).1 r) (eq-eqb (at (classes M) q) (at (classes M) q) refl))

  -- they stand in rising order
  rows_rise : (i j : ℕ) → i < j → j < length (rows M) → at (rows M) i < at (rows M) j
  unfolding rows rows_for
  rows_rise = those_rise M.size _

  pub rows_of : RowsOf M (rows M)
  unfolding rows rows_for
  rows_of = record {
    here = λ q l r. those_here M.size _ (at (classes M) q) (classes-in M lawful q l) (is-row q l r);
    only = λ i l.
        let (q, k, h) = (any_iff M.size _).0 (those_pass M.size _ i l).1 in
        let (u, v) = and-true (get_or (reachable M) q false) (eqb (at (classes M) q) (at (rows M) i)) h in
        (q, k, (reachable_iff M lawful q k).0 u, eqb-true (at (classes M) q) (at (rows M) i) v);
    once = once;
  }
    where
      once : (i j : ℕ) → i < length (rows M) → j < length (rows M) → at (rows M) i ≡ at (rows M) j → i ≡ j
      once i j k l e = by (dec_lt i j) (dec_lt j i)
        where
          by : Dec (i < j) → Dec (j < i) → i ≡ j
          by (yes m) d = absurd (omega (arith, rows_rise i j m l))
          by (no u) (yes m) = absurd (omega (arith, rows_rise j i m k))
          by (no u) (no v) = omega arith

  pub classes_collapsed : Collapsed M → (q : ℕ) → q < M.size → at (classes M) q ≡ q
  classes_collapsed d q l = d (at (classes M) q) q (classes-in M lawful q l) l (classes_member M lawful q l)

  pub rows_all : Connected M → Collapsed M → rows M ≡ tab M.size (λ q. q)
  unfolding rows rows_for
  rows_all c d =
      those-all M.size is_row (λ q l. subst (λ (x : ℕ). is_row x ≡ true) (classes_collapsed d q l) (is-row q l (c q l)))
