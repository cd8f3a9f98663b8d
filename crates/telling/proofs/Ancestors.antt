-- From a name to its parent in the last layer: the name of a state in a layer before, and the layer in which two states part.
-- Rests on the laws of births and parents (`automaton`'s `Lineage`).
use mathlib.Core.Path.{◌≡◌, refl, sym, subst, ◌∙◌}
use mathlib.Core.Logic.{◌≢◌}
use Prim.Native.Nat.{ℕ, zero, suc, pred, ◌+◌, ◌≤◌, ◌<◌}
use native.Mathlib.Omega.{arith}
use native.Mathlib.Nat.{not-suc-le-zero}
use native.Mathlib.Decide.{dec_lt, ℕ_discrete}
use borrow.Author.Tests.{eq-eqb, ne_eqb, lt-ltb, le-ltb}
use lib.Dec.{eqb, ltb}
use Rattle.counting.specs.Lists.{at}
use Rattle.counting.specs.Least.{pick}
use Rattle.counting.proofs.Leasts.{least_first}
use Rattle.automaton.specs.Machine.{Machine}
use Rattle.automaton.specs.Layers.{layer, rounds}
use Rattle.automaton.specs.Births.{birth, parent}
use Rattle.automaton.specs.Telling.{depth}
use Rattle.automaton.proofs.Alikes.{layer_le, layer-name}
use Rattle.automaton.proofs.Lineage.{layers_coarser, name_stays, birth_most, since_birth, before-birth, parent_less}
use Rattle.telling.specs.Kept.{states, named, born, from, Keeps, Kept, NameIn, PartedIn}
use Rattle.telling.specs.declared.climbing.LastLayer.{LastLayer}

-- the first layer in which two states have different names is their depth
depth-first : (M : Machine) (p q d : ℕ) → p < M.size → q < M.size → d ≤ rounds M
    → at (layer M d) p ≢ at (layer M d) q
    → ((b : ℕ) → d ≡ suc b → at (layer M b) p ≡ at (layer M b) q)
    → d ≡ depth M p q
unfolding depth
depth-first M p q d k l m u e =
    sym (least_first _ _ d (omega arith) (rw (ne_eqb _ _ u) refl) (λ j h. rw (eq-eqb _ _ (below d e j h)) refl))
  where
    below : (d : ℕ) → ((b : ℕ) → d ≡ suc b → at (layer M b) p ≡ at (layer M b) q) → (j : ℕ) → j < d → at (layer M j) p ≡ at (layer M j) q
    below zero e j h = absurd (not-suc-le-zero h)
    below (suc b) e j h = layers_coarser M j b p q k l (omega arith) (e b refl)

-- a state's name in a layer
pub record Bears (M : Machine) (x i c : ℕ) : Type 0 where
  pub state : x < M.size
  pub within : i ≤ rounds M
  pub named : at (layer M i) x ≡ c

module _ (M : Machine) (w : LastLayer) (k : Keeps M w) (x i c : ℕ) (h : Bears M x i c) where
  -- the name is a state, and a name there and in the last layer
  low : c < M.size
  low = omega (arith, h.state, h.named, layer_le M i x h.state)

  own : at (layer M i) c ≡ c
  own = cc (h.named, layer-name M i x h.state)

  last : at (layer M (rounds M)) c ≡ c
  last = name_stays M i (rounds M) c low h.within own

  -- its birth stands in the slice, and is not after the layer
  kept_birth : born w c ≡ birth M c
  kept_birth = k.births c low last

  born-within : born w c ≤ i
  born-within = omega (arith, kept_birth, birth_most M i c own)

  -- and so does the parent of a name that is born later than layer 0
  kept_parent : 0 < born w c → from w c ≡ parent M c
  kept_parent b = k.parents c low last (λ e. omega (arith, b, kept_birth, birth_most M 0 c e))

  parent_low : 0 < born w c → from w c < c
  parent_low b = omega (arith, kept_parent b, parent_less M (pred (birth M c)) c low (omega (arith, b, kept_birth)))

  -- the name since its birth, and just before
  bears_since : (j : ℕ) → born w c ≤ j → j ≤ i → Bears M x j c
  bears_since j b l = record {
    state = h.state;
    within = omega (arith, l, h.within);
    named = since_birth M i j x c h.state h.within h.named (omega (arith, b, kept_birth)) l;
  }

  bears_before : (b : ℕ) → born w c ≡ suc b → Bears M x b (from w c)
  bears_before b e = record {
    state = h.state;
    within = omega (arith, e, born-within, h.within);
    named = before-birth M i b x c h.state h.named (sym kept_birth ∙ e) (omega (arith, e, born-within)) ∙ sym (kept_parent (omega (arith, e)));
  }

  -- the name before a layer b that its birth is not after
  bears_step : (b : ℕ) → b ≢ 0 → born w c ≤ b → b ≤ i → Bears M x (pred b) (pick (eqb (born w c) b) (from w c) c)
  unfolding pick
  bears_step b u l m = elim (ℕ_discrete (born w c) b) [
    | yes e ↦ rw (eq-eqb _ _ e) (bears_before (pred b) (omega arith))
    | no v ↦ rw (ne_eqb _ _ v) (bears_since (pred b) (omega arith) (omega arith))
  ]

  -- it is not greater, and smaller where the name is born in b
  step_low : (b : ℕ) → b ≢ 0 → pick (eqb (born w c) b) (from w c) c ≤ c
  unfolding pick
  step_low b u = elim (ℕ_discrete (born w c) b) [ yes e ↦ rw (eq-eqb _ _ e) (omega (arith, parent_low (omega arith))) | no v ↦ rw (ne_eqb _ _ v) (omega arith) ]

  step_less : (b : ℕ) → b ≢ 0 → born w c ≡ b → pick (eqb (born w c) b) (from w c) c < c
  unfolding pick
  step_less b u e = rw (eq-eqb _ _ e) (parent_low (omega arith))

-- The way back of one state: its name in a layer that is not before the one asked.
abbrev pub Climbed : LastLayer → ℕ → ℕ → ℕ → Type 0
Climbed w x j c = (M : Machine) → Keeps M w → (i : ℕ) × Bears M x i c × (j ≤ rounds M → j ≤ i)

-- the last names stand in the slice
last_name : (M : Machine) (w : LastLayer) → Keeps M w → (x : ℕ) → x < states w → Bears M x (rounds M) (named w x)
last_name M w k x l = let m : x < M.size = omega (arith, k.size) in record { state = m; within = omega arith; named = sym (k.names x m) }

module _ (w : LastLayer) (x j c : ℕ) (h : Climbed w x j c) where
  pub climbed_low : Kept w → c < states w
  climbed_low (M, k) = let (i, b, m) = h M k in omega (arith, k.size, low M w k x i c b)

  pub climbed_less : Kept w → j < born w c → from w c < c
  climbed_less (M, k) l = let (i, b, m) = h M k in parent_low M w k x i c b (omega arith)

  pub climbed_more : j < born w c → Climbed w x j (from w c)
  climbed_more l M k =
      let (i, b, m) = h M k in
      (pred (born w c), bears_before M w k x i c b (pred (born w c)) (omega arith), λ r. omega arith)

  pub climbed_done : born w c ≤ j → NameIn w x j c
  climbed_done l M k r = let (i, b, m) = h M k in sym (bears_since M w k x i c b j l (m r)).named

-- The way back of two states: their names in one layer, which differ.
pub record Traced (w : LastLayer) (p q c d : ℕ) : Type 0 where
  pub unlike : c ≢ d
  pub both : (M : Machine) → Keeps M w → (i : ℕ) × Bears M p i c × Bears M q i d

-- the later of two births is the least number that neither passes
record Later (a b m : ℕ) : Type 0 where
  first : a ≤ m
  second : b ≤ m
  most : (j : ℕ) → a ≤ j → b ≤ j → m ≤ j

later_is : (a b : ℕ) → Later a b (pick (ltb a b) b a)
unfolding pick
later_is a b = elim (dec_lt a b) [
  | yes l ↦ rw (lt-ltb _ _ l) record { first = omega arith; second = omega arith; most = λ j k m. m }
  | no l ↦ rw (le-ltb a b (omega arith)) record { first = omega arith; second = omega arith; most = λ j k m. k }
]

-- where it is not the first, it is the second
later_second : (a b m : ℕ) → Later a b m → a ≢ m → b ≡ m
later_second a b zero h u = absurd (omega (arith, h.first))
later_second a b (suc m) h u = elim (dec_lt m b) [ yes l ↦ omega (arith, h.second) | no l ↦ absurd (omega (arith, h.most m (omega (arith, h.first)) (omega arith))) ]

module _ (w : LastLayer) (p q c d : ℕ) (h : Traced w p q c d) where
  pub traced_low : Kept w → (c < states w) × (d < states w)
  traced_low (M, k) =
      let (i, x, y) = h.both M k in
      (omega (arith, k.size, low M w k p i c x), omega (arith, k.size, low M w k q i d y))

  -- one step back, to before the later birth b
  module _ (b : ℕ) (e : b ≡ pick (ltb (born w c) (born w d)) (born w d) (born w c)) where
    later : Later (born w c) (born w d) b
    later = subst (Later (born w c) (born w d)) (sym e) (later_is _ _)

    -- in layer b they have still these names
    parted : ((M : Machine) → Keeps M w → (t : ℕ) → b ≡ suc t → at (layer M t) p ≡ at (layer M t) q) → PartedIn w p q b
    parted f M k =
        let (i, x, y) = h.both M k in
        let m : b ≤ i = later.most i (born-within M w k p i c x) (born-within M w k q i d y) in
        let g = bears_since M w k p i c x b later.first m in
        let o = bears_since M w k q i d y b later.second m in
        (depth-first M p q b g.state o.state g.within (λ z. h.unlike (sym g.named ∙ z ∙ o.named)) (f M k), g.within)

    pub traced_first : b ≡ 0 → PartedIn w p q 0
    traced_first z = subst (PartedIn w p q) z (parted (λ M k t f. absurd (omega arith)))

    module _ (u : b ≢ 0) (c' d' : ℕ) (f : c' ≡ pick (eqb (born w c) b) (from w c) c) (g : d' ≡ pick (eqb (born w d) b) (from w d) d) where
      back : (M : Machine) → Keeps M w → Bears M p (pred b) c' × Bears M q (pred b) d'
      back M k =
          let (i, x, y) = h.both M k in
          let m : b ≤ i = later.most i (born-within M w k p i c x) (born-within M w k q i d y) in
          rw (f, g) (bears_step M w k p i c x b u later.first m, bears_step M w k q i d y b u later.second m)

      pub traced_more : c' ≢ d' → Traced w p q c' d'
      traced_more v = record { unlike = v; both = λ M k. (pred b, (back M k).0, (back M k).1) }

      pub traced_found : c' ≡ d' → PartedIn w p q b
      traced_found z = parted (λ M k t r. (let s : t ≡ pred b = omega arith in rw s ((back M k).0.named ∙ z ∙ sym (back M k).1.named)))

      pub traced_less : Kept w → c' + d' < c + d
      traced_less (M, k) =
          let (i, x, y) = h.both M k in
          let l = step_low M w k p i c x b u in
          let m = step_low M w k q i d y b u in
          elim (ℕ_discrete (born w c) b) [
            | yes z ↦ omega (arith, f, g, m, step_less M w k p i c x b u z)
            | no v ↦ omega (arith, f, g, l, step_less M w k q i d y b u (later_second (born w c) (born w d) b later v))
          ]
