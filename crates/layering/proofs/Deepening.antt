-- From one layer to the next: what a round and the taking over of its names make of the lists. A round does not look at the kinds, so it may be one of a machine with others.
use mathlib.Core.Path.{◌≡◌, sym, ap, subst, ◌∙◌}
use mathlib.Core.Logic.{◌≢◌}
use mathlib.Core.Bool.{Bool, true, false}
use mathlib.Core.List.{List}
use Prim.Native.Nat.{ℕ, suc, ◌<◌}
use native.Mathlib.Decide.{ℕ_discrete}
use native.Mathlib.Omega.{arith}
use lib.ListN.{length}
use lib.Seq.{ext_get_or}
use Rattle.counting.specs.Lists.{at}
use Rattle.counting.specs.Least.{name}
use Rattle.counting.proofs.Tabs.{tab-at}
use Rattle.automaton.specs.Machine.{Machine, Lawful}
use Rattle.automaton.specs.Layers.{alike_next, layer, rounds}
use Rattle.automaton.specs.Births.{birth, parent}
use Rattle.automaton.proofs.Alikes.{layer-length, layer_le, layer-name}
use Rattle.automaton.proofs.Settling.{rounds-least, rounds_settled}
use Rattle.automaton.proofs.Lineage.{layers_coarser, newborn}
use Rattle.layering.specs.Work.{Numbers, Rounded, Moved}
use Rattle.layering.specs.Layered.{AtLayer}

module _ (M : Machine) (lawful : Lawful M) (w v : Numbers) (i : ℕ) (t : Bool) (long : length v.laters ≡ length v.names) (h : AtLayer M i w.names w.births w.parents) where
  module _ {N : Machine} (r : Rounded N w v (suc i) M.size t) (right : (s : ℕ) → s < M.size → at v.laters s ≡ name (alike_next M v.names) s) where
    size : length v.laters ≡ M.size
    size = long ∙ ap length (r.same ∙ h.named) ∙ layer-length M i

    -- the names of the next layer
    next_names : v.laters ≡ layer M (suc i)
    unfolding layer
    next_names =
        ext_get_or 0 v.laters (layer M (suc i)) (size ∙ sym (layer-length M (suc i)))
        (λ x l.
        let k : x < M.size = omega (arith, size) in
        right x k ∙ ap (λ (xs : List ℕ). name (alike_next M xs) x) (r.same ∙ h.named) ∙ sym (tab-at M.size (name (alike_next M (layer M i))) 0 x k))

    this : (x : ℕ) → at w.names x ≡ at (layer M i) x
    this x = ap (λ (xs : List ℕ). at xs x) h.named

    later : (x : ℕ) → at v.laters x ≡ at (layer M (suc i)) x
    later x = ap (λ (xs : List ℕ). at xs x) next_names

    -- where no name is new, the layers are equal
    same_layers : t ≡ false → layer M i ≡ layer M (suc i)
    same_layers e =
        ext_get_or 0 (layer M i) (layer M (suc i)) (layer-length M i ∙ sym (layer-length M (suc i)))
        (λ x l. same x (omega (arith, layer-length M i)))
      where
        same : (x : ℕ) → x < M.size → at (layer M i) x ≡ at (layer M (suc i)) x
        same x l =
            let y : ℕ = at (layer M (suc i)) x in
            let k : y < M.size = omega (arith, layer_le M (suc i) x l) in
            let a : at (layer M (suc i)) y ≡ y = layer-name M (suc i) x l in
            let b : at (layer M i) y ≡ y = sym (this y) ∙ r.quiet e y k (later y ∙ a) in
            layers_coarser M i (suc i) x y l k (omega arith) (sym a) ∙ b

    pub quiet_settled : t ≡ false → i ≡ rounds M
    quiet_settled e = elim (ℕ_discrete i (rounds M)) [ yes z ↦ z | no z ↦ absurd (rounds-least M i (omega (arith, h.reached)) (same_layers e)) ]

    pub busy_unsettled : t ≡ true → i < rounds M
    busy_unsettled e = elim (ℕ_discrete i (rounds M)) [
      | yes z ↦
          (let (x, l, a, b) = r.busy e in
          let s : layer M i ≡ layer M (suc i) = subst (λ (j : ℕ). layer M j ≡ layer M (suc j)) (sym z) (rounds_settled M lawful) in
          let c : at (layer M i) x ≡ at (layer M (suc i)) x = ap (λ (xs : List ℕ). at xs x) s in
          absurd (omega (arith, c, this x, later x)))
      | no z ↦ omega (arith, h.reached)
    ]

    -- a quiet round leaves the layer as it was
    pub stays : AtLayer M i v.names v.births v.parents
    stays = record {
      reached = h.reached;
      named = r.same ∙ h.named;
      born-in = λ c l a. (r.stale c (λ k b. this c ∙ a)).0 ∙ h.born-in c l a;
      comes_from = λ c l a b. (r.stale c (λ k d. this c ∙ a)).1 ∙ h.comes_from c l a b;
    }

    pub deeper : (u : Numbers) → t ≡ true → Moved v u → AtLayer M (suc i) u.names u.births u.parents
    deeper u e m = record {
      reached = busy_unsettled e;
      named = m.names ∙ next_names;
      born-in = λ c l a. ap (λ (xs : List ℕ). at xs c) m.births ∙ (born-at c l a).0;
      comes_from = λ c l a b. ap (λ (xs : List ℕ). at xs c) m.parents ∙ (born-at c l a).1 b;
    }
      where
        born-at : (c : ℕ) → c < M.size → at (layer M (suc i)) c ≡ c → (at v.births c ≡ birth M c) × (at (layer M 0) c ≢ c → at v.parents c ≡ parent M c)
        born-at c l a = elim (ℕ_discrete (at (layer M i) c) c) [
          | yes z ↦
              (let s = r.stale c (λ k d. this c ∙ z) in
              (s.0 ∙ h.born-in c l z, λ b. s.1 ∙ h.comes_from c l z b))
          | no z ↦
              (let f = r.fresh c l (later c ∙ a) (λ d. z (sym (this c) ∙ d)) in
              let o = newborn M i c l (busy_unsettled e) a (omega (arith, layer_le M i c l)) in
              (f.0 ∙ sym o.0, λ b. f.1 ∙ this c ∙ sym o.1))
        ]
