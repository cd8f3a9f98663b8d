-- The rounds one after the other, over the machine whose kinds are the first names.
use mathlib.Core.Path.{◌≡◌, subst}
use mathlib.Core.Bool.{Bool, true, false}
use mathlib.Core.List.{List}
use Prim.Native.Nat.{ℕ, suc, ◌+◌, ◌<◌}
use native.Mathlib.Numerals.{add-one}
use native.Mathlib.Omega.{arith}
use lib.ListN.{length}
use Rattle.counting.specs.Lists.{at}
use Rattle.counting.specs.Least.{name}
use Rattle.automaton.specs.Machine.{Machine, Lawful}
use Rattle.automaton.specs.Layers.{alike_next, layer, rounds}
use Rattle.automaton.proofs.Alikes.{layer_le, layer-name}
use Rattle.automaton.proofs.Settling.{rounds-kinds}
use Rattle.table.specs.Tables.{unmarked}
use Rattle.table.specs.declared.tables.NextStates.{NextStates}
use Rattle.table.proofs.Handing.{held_lawful}
use Rattle.layering.specs.Work.{Numbers, marked_by, Named, Rounded, Moved}
use Rattle.layering.specs.Layered.{AtLayer, Rested}
use Rattle.layering.proofs.Deepening.{quiet_settled, busy_unsettled, stays, deeper}

-- a layer's names are names
pub layer_named : (M : Machine) (i : ℕ) (names : List ℕ) → names ≡ layer M i → Named M.size names
layer_named M i names e = rw e record {
  low = layer_le M i;
  named = layer-name M i;
}

module _ (t : NextStates) (kinds : List ℕ) where
  abbrev M : Machine
  M = marked_by t kinds

  lawful : Lawful M
  lawful = held_lawful kinds t.held

  pub round_small : {i : ℕ} {names births parents : List ℕ} → AtLayer M i names births parents → i + 1 < 65536
  round_small h = omega (arith, h.reached, rounds-kinds M, t.held.range.states_most)

  module _ {w v : Numbers} {i : ℕ} {b : Bool} (r : Rounded (unmarked t) w v (i + 1) t.sizes.states b) (long : length v.laters ≡ length v.names) (h : AtLayer M i w.names w.births w.parents) where
    as_next : Rounded (unmarked t) w v (suc i) t.sizes.states b
    as_next = subst (λ (j : ℕ). Rounded (unmarked t) w v j t.sizes.states b) (add-one i) r

    -- a round does not look at the kinds
    right : (s : ℕ) → s < t.sizes.states → at v.laters s ≡ name (alike_next M v.names) s
    unfolding alike_next
    right = r.done.right

    pub round_rests : b ≡ false → Rested M v.names v.births v.parents i
    round_rests u = record {
      last = quiet_settled M lawful w v i b long h as_next right u;
      layered = stays M lawful w v i b long h as_next right;
    }

    pub round_unsettled : b ≡ true → i < rounds M
    round_unsettled = busy_unsettled M lawful w v i b long h as_next right

    pub round_deepens : (u : Numbers) → b ≡ true → Moved v u → AtLayer M (i + 1) u.names u.births u.parents
    round_deepens u e m = rw (add-one i) (deeper M lawful w v i b long h as_next right u e m)
