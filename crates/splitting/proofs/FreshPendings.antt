-- The pending list of the fresh lists of marks: all signs for the first state that has the mark due. Rests on the paper's rule for marks.
use mathlib.Core.Path.{◌≡◌, refl, sym, ap₂, ◌∙◌}
use mathlib.Core.Bool.{Bool, true≢false, true, false, not, ◌&&◌, and-true, and-false}
use mathlib.Core.List.{List}
use Prim.Native.Nat.{ℕ, suc, ◌-◌, ◌≤◌, ◌<◌}
use native.Mathlib.Decide.{ℕ_discrete}
use native.Mathlib.Omega.{arith}
use borrow.Author.Tests.{eq-eqb, ne_eqb}
use lib.Dec.{eqb, leb}
use Rattle.counting.specs.Lists.{at}
use Rattle.counting.specs.Least.{pick, name}
use Rattle.counting.specs.Counts.{any, count}
use Rattle.counting.proofs.Cases.{by_test}
use Rattle.counting.proofs.Leasts.{least_first}
use Rattle.counting.proofs.Names.{name-least}
use Rattle.counting.proofs.Tabs.{tab-at}
use Rattle.counting.proofs.Tallies.{any_iff}
use Rattle.automaton.specs.Machine.{Machine}
use Rattle.automaton.specs.Layers.{alike_kind, layer}
use Rattle.automaton.proofs.Alikes.{alike-kind}
use Rattle.refining.specs.Fresh.{class_sizes, before, spared_of, pending_of, fresh_of, fresh, marked_pending}
use Rattle.refining.proofs.Freshness.{fresh_marked}
use Rattle.table.specs.Encoding.{machine_in}
use Rattle.splitting.specs.Filling.{Filled, FreshFilled}
use Rattle.std.specs.Prelude.{Option, Some, None, length}
use Rattle.lending.specs.Memory.{cleared}
use Rattle.lending.proofs.Memories.{cleared_at, cleared_beyond, cleared-length}
use Rattle.splitting.proofs.Pendings.{is_first, marks_both, some_due, none_due, none_waits}

-- the mark due, of so many accepting states
abbrev due_of : ℕ → ℕ → Option ℕ
due_of accepting n = pick (not (eqb accepting 0) && not (eqb (n - accepting) 0)) (Some (pick (leb accepting (n - accepting)) 1 0)) None

module _ (n k start : ℕ) (marks nexts : List ℕ) where
  abbrev machine : Machine
  machine = machine_in n k start marks nexts

  -- the same kinds with a start and next states that are states: the fresh lists are the same
  abbrev still : Machine
  still = record { size = n; signs = k; start = 0; next = λ q a. 0; kind = λ q. at marks q }

  -- whether a state before q has the mark m
  abbrev had : ℕ → ℕ → Bool
  had q m = any q (λ y. eqb (at marks y) m)

  named : (q : ℕ) → q < n → at (layer machine 0) q ≡ name (alike_kind machine) q
  unfolding layer
  named q l = tab-at n _ 0 q l

  -- a state is its own name exactly where no state before it has its mark
  own_name : (q : ℕ) → q < n → eqb (at (layer machine 0) q) q ≡ not (had q (at marks q))
  unfolding alike_kind name
  own_name q l = by_test (had q (at marks q)) later first
    where
      later : had q (at marks q) ≡ true → eqb (at (layer machine 0) q) q ≡ not (had q (at marks q))
      later e =
          let f = (any_iff q (λ y. eqb (at marks y) (at marks q))).0 e in
          rw e (ne_eqb (at (layer machine 0) q) q (λ g. omega (arith, g, named q l, name-least (alike_kind machine) (alike-kind machine) q f.0 f.2, f.1)))

      first : had q (at marks q) ≡ false → eqb (at (layer machine 0) q) q ≡ not (had q (at marks q))
      first e =
          rw e (eq-eqb _ _
          (named q l
          ∙ least_first (suc q) (λ y. eqb (at marks y) (at marks q)) q (omega arith) (eq-eqb (at marks q) (at marks q) refl)
          (λ j m. by_test (eqb (at marks j) (at marks q)) (λ f. absurd (true≢false (sym ((any_iff q (λ y. eqb (at marks y) (at marks q))).1 (j, m, f)) ∙ e))) (λ f. f))))

  first_due : (q due : ℕ) → q < n → pick (is_first due marks q) k 0 ≡ pick (eqb (at (layer machine 0) q) q && eqb (at marks q) due) k 0
  first_due q due l = elim (ℕ_discrete (at marks q) due) [
    | yes e ↦ rw (own_name q l, ← e, eq-eqb (at marks q) (at marks q) refl, and-true) refl
    | no u ↦ rw (ne_eqb _ _ u, and-false) refl
  ]

  module _ (small : (q : ℕ) → q < n → at marks q < 2) where
    -- the paper's rule, also where the start and the next states are no states
    by_rule : (q : ℕ) → q < n → at (fresh machine).pending q ≡ marked_pending machine q
    unfolding fresh fresh_of pending_of spared_of class_sizes before layer alike_kind marked_pending
    by_rule q l = elim (ℕ_discrete k 0) [
      | yes e ↦ tab-at n _ 0 q l ∙ none_waits _ k e ∙ sym (none_waits _ k e)
      | no u ↦ fresh_marked still (record { some_state = omega arith; some_sign = omega arith; start-in = omega arith; next_in = λ x a i j. omega arith }) (λ x i. omega (arith, small x i)) q l
    ]

    module _ (accepting : ℕ) (counts : accepting ≡ count n (λ x. eqb (at marks x) 1)) where
      other : ℕ
      other = count n (λ x. eqb (at marks x) 0)

      others : n - accepting ≡ other
      unfolding other
      others = omega (arith, counts, marks_both n (at marks) small)

      -- the pending of a state, by both counts
      rule : ℕ → ℕ → ℕ → ℕ
      rule q a o = pick ((not (eqb a 0) && not (eqb o 0)) && eqb (at (layer machine 0) q) q && eqb (at marks q) (pick (leb a o) 1 0)) k 0

      by_counts : (q : ℕ) → q < n → rule q accepting (n - accepting) ≡ at (fresh machine).pending q
      unfolding marked_pending other rule
      by_counts q l = ap₂ (rule q) counts others ∙ sym (by_rule q l)

      pub due_fresh : (due q : ℕ) → q < n → Some due ≡ due_of accepting n → pick (is_first due marks q) k 0 ≡ at (fresh machine).pending q
      unfolding rule
      due_fresh due q l is = first_due q due l ∙ some_due _ _ _ _ _ k is ∙ by_counts q l

      pub none_fresh : (q : ℕ) → q < n → None ≡ due_of accepting n → 0 ≡ at (fresh machine).pending q
      unfolding rule
      none_fresh q l is = none_due _ (eqb (at (layer machine 0) q) q) (at marks q) _ k is ∙ by_counts q l

module _ (n k accepting : ℕ) (marks before after : List ℕ) (small : (q : ℕ) → q < n → at marks q < 2) (counts : accepting ≡ count n (λ x. eqb (at marks x) 1)) where
  pub filled_fresh : (due : ℕ) → Some due ≡ due_of accepting n → Filled k due n marks before after → FreshFilled n k marks before after
  filled_fresh due is filled = record {
    long = filled.long;
    pendings = λ start nexts q l. filled.pendings q l ∙ due_fresh n k start marks nexts small accepting counts due q l is;
    beyond = filled.beyond;
  }

  pub cleared_fresh : None ≡ due_of accepting n → n ≤ length before → after ≡ cleared n before → FreshFilled n k marks before after
  cleared_fresh is room e = rw e record {
    long = cleared-length n before room;
    pendings = λ start nexts q l. cleared_at n before q l ∙ none_fresh n k start marks nexts small accepting counts q l is;
    beyond = λ i l. cleared_beyond n before i l;
  }
