-- The ways out of the fresh start, each with its facts.
use mathlib.Core.Path.{◌≡◌, sym, ap, ap₂, ◌∙◌}
use mathlib.Core.Logic.{◌⊎◌, inl, inr}
use mathlib.Core.Bool.{Bool, true, ◌||◌, or-true}
use mathlib.Core.List.{List, [], ◌∷◌}
use Prim.Native.Nat.{ℕ, ◌≤◌, ◌<◌}
use native.Mathlib.Omega.{arith}
use borrow.Author.Tests.{lt-ltb, le-ltb}
use lib.Dec.{ltb}
use lib.ListN.{length}
use Rattle.counting.specs.Lists.{at}
use Rattle.counting.specs.Least.{name}
use Rattle.counting.proofs.Tabs.{tab-length, tab-at}
use Rattle.automaton.specs.Machine.{Machine}
use Rattle.automaton.specs.Layers.{alike_kind, layer}
use Rattle.automaton.proofs.Alikes.{layer-length}
use Rattle.refining.specs.Fresh.{pending_of, fresh_of, fresh}
use Rattle.lending.specs.Memory.{written}
use Rattle.lending.proofs.Memories.{written_is}
use Rattle.table.specs.Answers.{gives, refuses}
use Rattle.table.specs.Judging.{judged}
use Rattle.table.specs.Leaving.{left}
use Rattle.table.specs.Encoding.{machine_in}
use Rattle.table.specs.Accepted.{Good}
use Rattle.table.specs.declared.answer.Sizes.{Sizes}
use Rattle.table.proofs.Leavings.{file_refused, file_given, refuses_here, refuses_not}
use Rattle.table.proofs.Openings.{good_given}
use Rattle.table.proofs.Handing.{marks_in, nexts_in, machine_is}
use Rattle.layering.specs.Layered.{FirstNamed}
use Rattle.splitting.specs.Filling.{FreshFilled}
use Rattle.splitting.specs.StartCall.{start_of, start_leaves}

pub start_refused : (file class pending : List ℕ) {number place : ℕ} → judged file ≡ refuses number place → left (refuses number place) (class ∷ pending ∷ []) ≡ start_leaves file class pending
unfolding start_leaves
start_refused file class pending e = sym (file_refused file (class ∷ pending ∷ []) _ e)

module _ (file : List ℕ) (z : Sizes) (g : Good file z) (class pending : List ℕ) where
  -- the machine whose bodies the call hands on, and its marks
  abbrev machine : Machine
  machine = machine_in z.states z.signs z.start (marks_in file z) (nexts_in file z)

  abbrev marks : List ℕ
  marks = marks_in file z

  given : start_leaves file class pending ≡ start_of machine class pending
  unfolding start_leaves
  given = file_given file (class ∷ pending ∷ []) _ (good_given g) ∙ ap (λ (M : Machine). start_of M class pending) (sym (machine_is file z g))

  pub start_short : (length class < z.states) ⊎ (length pending < z.states) → left (refuses 12 z.states) (class ∷ pending ∷ []) ≡ start_leaves file class pending
  unfolding start_of
  start_short l = sym (given ∙ refuses_here 12 z.states (class ∷ pending ∷ []) _ (short l))
    where
      short : (length class < z.states) ⊎ (length pending < z.states) → (ltb (length class) z.states || ltb (length pending) z.states) ≡ true
      short (inl h) = ap (λ (t : Bool). t || ltb (length pending) z.states) (lt-ltb (length class) z.states h)
      short (inr h) = ap (λ (t : Bool). ltb (length class) z.states || t) (lt-ltb (length pending) z.states h) ∙ or-true (ltb (length class) z.states)

  module _ (room : z.states ≤ length class) (fits : z.states ≤ length pending) (names : List ℕ) (named : FirstNamed marks z.states class names) where
    name-at : (x : ℕ) → x < z.states → at names x ≡ at (layer machine 0) x
    unfolding layer alike_kind
    name-at x l =
        let f : ℕ → ℕ = name (alike_kind machine) in
        named.names x l ∙ sym (tab-at z.states f 0 x l)

    names_fresh : names ≡ written (fresh machine).class class
    unfolding fresh fresh_of
    names_fresh =
        let e : length (layer machine 0) ≡ z.states = layer-length machine 0 in
        written_is (layer machine 0) class names named.long (omega arith) (λ j l. name-at j (omega arith)) (λ j l. named.beyond j (omega arith))

    module _ (after : List ℕ) (filled : FreshFilled z.states z.signs marks pending after) where
      pendings_fresh : after ≡ written (fresh machine).pending pending
      unfolding fresh fresh_of pending_of
      pendings_fresh =
          let e : length (fresh machine).pending ≡ z.states = tab-length z.states _ in
          written_is (fresh machine).pending pending after filled.long (omega arith) (λ j l. filled.pendings z.start (nexts_in file z) j (omega arith)) (λ j l. filled.beyond j (omega arith))

      pub start_fresh : left (gives []) (names ∷ after ∷ []) ≡ start_leaves file class pending
      unfolding start_of
      start_fresh =
          ap₂ (λ (c p : List ℕ). left (gives []) (c ∷ p ∷ [])) names_fresh pendings_fresh
          ∙ sym
          (given
          ∙ refuses_not 12 z.states (class ∷ pending ∷ []) _ (ap₂ ◌||◌ (le-ltb (length class) z.states room) (le-ltb (length pending) z.states fits)))
