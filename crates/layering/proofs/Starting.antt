-- The first names are layer 0, and the rounds from them are the rounds of the marks.
use mathlib.Core.Path.{◌≡◌, sym, ap, ◌∙◌}
use mathlib.Core.List.{List}
use Prim.Native.Nat.{ℕ, ◌<◌}
use native.Mathlib.Omega.{arith}
use lib.ListN.{take}
use lib.Seq.{get_or-take}
use Rattle.counting.specs.Lists.{at}
use Rattle.counting.specs.Least.{name}
use Rattle.counting.proofs.Tabs.{tab-at}
use Rattle.automaton.specs.Machine.{Machine}
use Rattle.automaton.specs.Layers.{alike_kind, layer}
use Rattle.automaton.proofs.Lineage.{birth_most}
use Rattle.automaton.proofs.Rekinding.{named_kinds, layers_same, rounds_same, births_same, parents_same}
use Rattle.table.specs.Encoding.{machine_in}
use Rattle.layering.specs.Work.{this}
use Rattle.layering.specs.Layered.{InLayer, Settled, Begun}

module _ (n k start : ℕ) (marks nexts w₀ w : List ℕ) (b : Begun n marks w₀ w) where
  -- by the marks, and by the first names
  abbrev M : Machine
  M = machine_in n k start marks nexts

  abbrev N : Machine
  N = machine_in n k start (take n w) nexts

  first : (x : ℕ) → x < n → this w x ≡ at (layer M 0) x
  unfolding layer alike_kind
  first x l =
      let f : ℕ → ℕ = name (alike_kind M) in
      b.names x l ∙ sym (tab-at n f 0 x l)

  one_layer : layer N 0 ≡ layer M 0
  one_layer = named_kinds M (at (take n w)) (λ x l. get_or-take n w x 0 l ∙ first x l)

  pub begins : InLayer N 0 w
  begins = record {
    reached = omega arith;
    names = λ x l. first x l ∙ sym (ap (λ (xs : List ℕ). at xs x) one_layer);
    births = λ c l e. omega (arith, b.births c l, birth_most N 0 c e);
    parents = λ c l e f. absurd (f e);
  }

  pub settled : (v : List ℕ) (r : ℕ) → Settled N w v r → Settled M w₀ v r
  settled v r s = record {
    long = s.long ∙ b.long;
    last = s.last ∙ rounds_same M (at (take n w)) one_layer;
    layered = record {
      reached = omega (arith, s.last, rounds_same M (at (take n w)) one_layer);
      names = λ x l. s.layered.names x l ∙ ap (λ (xs : List ℕ). at xs x) (same r);
      births = λ c l e. s.layered.births c l (ap (λ (xs : List ℕ). at xs c) (same r) ∙ e) ∙ births_same M (at (take n w)) one_layer c;
      parents = λ c l e f.
          s.layered.parents c l (ap (λ (xs : List ℕ). at xs c) (same r) ∙ e) (λ g. f (sym (ap (λ (xs : List ℕ). at xs c) one_layer) ∙ g))
          ∙ parents_same M (at (take n w)) one_layer c;
    };
    beyond = λ i l. s.beyond i l ∙ b.beyond i l;
  }
    where
      same : (i : ℕ) → layer N i ≡ layer M i
      same i = layers_same M (at (take n w)) one_layer i
