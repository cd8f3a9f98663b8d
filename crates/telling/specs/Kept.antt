-- All layers of a machine, kept by its last layer with births and parents, and what is found from them.
use Rattle.table.specs.Tables.{machine_with}
use Rattle.std.specs.Prelude.{◌≡◌, ◌≢◌, Bool, not, List, ℕ, ◌≤◌, ◌<◌, eqb, length}
use Rattle.counting.specs.Lists.{at}
use Rattle.automaton.specs.Machine.{Machine}
use Rattle.automaton.specs.Layers.{layer, rounds}
use Rattle.automaton.specs.Births.{birth, parent}
use Rattle.automaton.specs.Telling.{depth, parting_sign, word_from}
use Rattle.lending.specs.Memory.{written}
use Rattle.table.specs.declared.tables.NextStates.{NextStates}
use Rattle.telling.specs.declared.climbing.LastLayer.{LastLayer}

-- the number of states, the last name of a state, the birth of a name, and its parent
abbrev pub states : LastLayer → ℕ
states last = length last.names.now

abbrev pub named : LastLayer → ℕ → ℕ
named last x = at last.names.now x

abbrev pub born : LastLayer → ℕ → ℕ
born last c = at last.births.now c

abbrev pub from : LastLayer → ℕ → ℕ
from last c = at last.parents.now c

-- It is the last layer of a machine: the name of each state; the birth of each name, and the parent of each name that layer 0 does not have.
pub record Keeps (M : Machine) (last : LastLayer) : Type 0 where
  pub size : M.size ≡ states last
  pub names : (x : ℕ) → x < M.size → named last x ≡ at (layer M (rounds M)) x
  pub births : (c : ℕ) → c < M.size → at (layer M (rounds M)) c ≡ c → born last c ≡ birth M c
  pub parents : (c : ℕ) → c < M.size → at (layer M (rounds M)) c ≡ c → at (layer M 0) c ≢ c → from last c ≡ parent M c

-- of some machine
abbrev pub Kept : LastLayer → Type 0
Kept last = (M : Machine) × Keeps M last

-- the name of a state in a layer, whichever machine's the last layer is
abbrev pub NameIn : LastLayer → ℕ → ℕ → ℕ → Type 0
NameIn last x i r = (M : Machine) → Keeps M last → i ≤ rounds M → r ≡ at (layer M i) x

-- whether two states have different names in a layer
abbrev pub Differ : LastLayer → ℕ → ℕ → ℕ → Bool → Type 0
Differ last x y i t = (M : Machine) → Keeps M last → i ≤ rounds M → t ≡ not (eqb (at (layer M i) x) (at (layer M i) y))

-- the first layer in which two states have different names
abbrev pub PartedIn : LastLayer → ℕ → ℕ → ℕ → Type 0
PartedIn last p q r = (M : Machine) → Keeps M last → (r ≡ depth M p q) × (r ≤ rounds M)

-- of some marks, with these next states
abbrev pub KeptIn : NextStates → LastLayer → Type 0
KeptIn t last = (marks : List ℕ) × Keeps (machine_with t marks) last

-- the least sign under which next states have different names in a layer
abbrev pub PartingSign : NextStates → LastLayer → ℕ → ℕ → ℕ → ℕ → Type 0
PartingSign t last p q i r =
    (marks : List ℕ) → Keeps (machine_with t marks) last → i ≤ rounds (machine_with t marks) → r ≡ parting_sign (machine_with t marks) (layer (machine_with t marks) i) p q

-- the two states part in layer d and not before
abbrev pub PartedBy : NextStates → LastLayer → ℕ → ℕ → ℕ → Type 0
PartedBy t last p q d =
    (marks : List ℕ) × Keeps (machine_with t marks) last × (d ≡ depth (machine_with t marks) p q) × (d ≤ rounds (machine_with t marks))

-- the word that tells them apart stands at the front of the lent bytes, and behind it what was there
abbrev pub Spelled : NextStates → LastLayer → ℕ → ℕ → ℕ → List ℕ → List ℕ → Type 0
Spelled t last p q d before after =
    (marks : List ℕ) → Keeps (machine_with t marks) last → d ≡ depth (machine_with t marks) p q → after ≡ written (word_from (machine_with t marks) d p q) before
