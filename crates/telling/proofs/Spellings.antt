-- The telling word sign by sign: two states that part in a layer, the least sign under which their next states part one layer before, and the word so far.
-- Rests on the laws of layers and of the telling word.
use mathlib.Core.Path.{◌≡◌, refl, sym, ap, ap₂, subst, subst₂, ◌∙◌}
use mathlib.Core.Logic.{◌≢◌}
use mathlib.Core.Bool.{Bool, true, false, not}
use mathlib.Core.List.{List, ◌∷◌}
use Prim.Native.Nat.{ℕ, suc, ◌+◌, ◌*◌, ◌-◌, ◌≤◌, ◌<◌}
use native.Mathlib.Nat.{not-suc-le-zero}
use native.Mathlib.Omega.{arith}
use native.Mathlib.Decide.{ℕ_discrete}
use borrow.Author.Tests.{eq-eqb}
use lib.Dec.{eqb}
use lib.ListN.{length, set, length-set}
use lib.Seq.{get_or-set_same, get_or-set_other}
use Rattle.table.specs.Tables.{machine_with}
use Rattle.counting.specs.Lists.{at}
use Rattle.counting.proofs.Leasts.{least_first, least_none}
use Rattle.automaton.specs.Machine.{Machine, Lawful}
use Rattle.automaton.specs.Layers.{layer, rounds}
use Rattle.automaton.specs.Telling.{depth, parting_sign, word_from}
use Rattle.automaton.proofs.Alikes.{layer_suc}
use Rattle.automaton.proofs.Lineage.{layers_coarser}
use Rattle.automaton.proofs.Tellings.{FirstDiffers, differs_below, sign_differs, depth_differs, word_tells}
use Rattle.lending.specs.Pairs.{pair_at}
use Rattle.lending.specs.Memory.{written}
use Rattle.lending.proofs.Memories.{written_is}
use Rattle.table.specs.declared.tables.NextStates.{NextStates}
use Rattle.table.proofs.Handing.{held_lawful}
use Rattle.telling.specs.Kept.{states, named, Keeps, Differ, PartingSign, PartedBy, Spelled}
use Rattle.telling.specs.declared.climbing.LastLayer.{LastLayer}

-- the next state of a state under a sign
abbrev pub next : NextStates → ℕ → ℕ → ℕ
next t q a = pair_at t.bytes.now (2 * (q * t.sizes.signs + a))

-- states with one last name have one name in every layer
pub never_differ : (w : LastLayer) (x y i : ℕ) → x < states w → y < states w → named w x ≡ named w y → Differ w x y i false
never_differ w x y i k l e M h m =
    let u : x < M.size = omega (arith, h.size) in
    let v : y < M.size = omega (arith, h.size) in
    let same : at (layer M i) x ≡ at (layer M i) y = layers_coarser M i (rounds M) x y u v m (sym (h.names x u) ∙ e ∙ h.names y v) in
    ap not (sym (eq-eqb (at (layer M i) x) (at (layer M i) y) same))

module _ (t : NextStates) (w : LastLayer) (p q i : ℕ) where
  -- under the signs below a the next states have one name in layer i
  pub record Unparted (a : ℕ) : Type 0 where
    pub below : (marks : List ℕ) → Keeps (machine_with t marks) w → i ≤ rounds (machine_with t marks)
        → (b : ℕ) → b < a
        → not (eqb (at (layer (machine_with t marks) i) (next t p b)) (at (layer (machine_with t marks) i) (next t q b))) ≡ false

  -- the next states under a sign were compared
  module _ (a left right : ℕ) (c : Bool) (e : left ≡ next t p a) (f : right ≡ next t q a) (d : Differ w left right i c) where
    compared : Differ w (next t p a) (next t q a) i c
    compared M h m = d M h m ∙ ap₂ (λ (x y : ℕ). not (eqb (at (layer M i) x) (at (layer M i) y))) e f

    pub sign_found : c ≡ true → a < t.sizes.signs → Unparted a → PartingSign t w p q i a
    unfolding parting_sign
    sign_found v l u marks h m = sym (least_first _ _ a l (sym (compared (machine_with t marks) h m) ∙ v) (u.below marks h m))

  pub sign_none : (a : ℕ) → t.sizes.signs ≤ a → Unparted a → PartingSign t w p q i t.sizes.signs
  unfolding parting_sign
  sign_none a l u marks h m = sym (least_none _ _ (λ b r. u.below marks h m b (omega arith)))

-- the two states part in layer d and not before
pub record Parts (M : Machine) (d p q : ℕ) : Type 0 where
  pub here : at (layer M d) p ≢ at (layer M d) q
  pub before : (i : ℕ) → i < d → at (layer M i) p ≡ at (layer M i) q

-- The first i signs of the word for p and q are written; what is to come is the word for the two states they lead to.
pub record SpelledTo (M : Machine) (p q d : ℕ) (word : List ℕ) (one other i : ℕ) : Type 0 where
  pub parts : Parts M (d - i) one other
  pub front : (j : ℕ) → j < i → at word j ≡ at (word_from M d p q) j
  pub ahead : (j : ℕ) → at (word_from M d p q) (i + j) ≡ at (word_from M (d - i) one other) j

module _ (M : Machine) where
  -- states with different last names part in one of the layers
  apart_parts : (w : LastLayer) (p q d : ℕ) → Keeps M w → p < states w → q < states w → named w p ≢ named w q → d ≡ depth M p q → (d ≤ rounds M) × Parts M d p q
  apart_parts w p q d h k l u e =
      let r : FirstDiffers (suc (rounds M)) (λ i. at (layer M i) p) (λ i. at (layer M i) q) (depth M p q) = depth_differs M p q in
      let s : p < M.size = omega (arith, h.size) in
      let t : q < M.size = omega (arith, h.size) in
      let m : depth M p q < suc (rounds M) =
      differs_below (suc (rounds M)) (depth M p q) r
      (λ all. u (h.names p s ∙ all (rounds M) (omega arith) ∙ sym (h.names q t)))
      in
      (omega arith, subst (λ (x : ℕ). Parts M x p q) (sym e) (record { here = r.here m; before = r.before }))

  module _ (lawful : Lawful M) where
    -- under the parting sign the next states part one layer before
    next_parts : (e p q : ℕ) → p < M.size → q < M.size → Parts M (suc e) p q
        → (parting_sign M (layer M e) p q < M.signs) × Parts M e (M.next p (parting_sign M (layer M e) p q)) (M.next q (parting_sign M (layer M e) p q))
    next_parts e p q k l h =
        let a : ℕ = parting_sign M (layer M e) p q in
        let r : FirstDiffers M.signs (λ b. at (layer M e) (M.next p b)) (λ b. at (layer M e) (M.next q b)) a = sign_differs M (layer M e) p q in
        let m : a < M.signs = differs_below M.signs a r (λ f. h.here ((layer_suc M e p q k l).1 (h.before e (omega arith), f))) in
        (m, record { here = r.here m; before = λ i n. ((layer_suc M i p q k l).0 (h.before (suc i) (omega arith))).1 a m })

    -- one sign more, which is a sign
    spelled_more : (p q d i : ℕ) (word : List ℕ) (one other a : ℕ) → i < d → i < length word → one < M.size → other < M.size
        → SpelledTo M p q d word one other i
        → a ≡ parting_sign M (layer M (d - 1 - i)) one other
        → (a < M.signs) × SpelledTo M p q d (set word i a) (M.next one a) (M.next other a) (i + 1)
    unfolding word_from
    spelled_more p q d i word one other a l room k m h f =
        let e : ℕ = d - 1 - i in
        let x : d - i ≡ suc e = omega arith in
        let y : d - (i + 1) ≡ e = omega arith in
        let come : (j : ℕ) → at (word_from M d p q) (i + j) ≡ at (a ∷ word_from M e (M.next one a) (M.next other a)) j =
        λ j. h.ahead j ∙ ap (λ (c : ℕ). at (word_from M c one other) j) x ∙ ap (λ (b : ℕ). at (b ∷ word_from M e (M.next one b) (M.next other b)) j) (sym f)
        in
        let (s, r) = next_parts e one other k m (subst (λ (c : ℕ). Parts M c one other) x h.parts) in (
          subst (λ (b : ℕ). b < M.signs) (sym f) s,
          record {
            parts = rw y (subst (λ (b : ℕ). Parts M e (M.next one b) (M.next other b)) (sym f) r);
            front = λ j n.
                elim (ℕ_discrete j i) [
                  | yes z ↦ rw z (get_or-set_same word i a 0 room ∙ sym (come 0) ∙ ap (at (word_from M d p q)) (let w : i + 0 ≡ i = omega arith in w))
                  | no z ↦ get_or-set_other word i j a 0 z ∙ h.front j (omega arith)
                ];
            ahead = λ j. ap (at (word_from M d p q)) (let w : i + 1 + j ≡ i + suc j = omega arith in w) ∙ come (suc j) ∙ ap (λ (c : ℕ). at (word_from M c (M.next one a) (M.next other a)) j) (sym y);
          },
        )

    -- all signs written
    spelled_done : (p q d : ℕ) (before word : List ℕ) (one other : ℕ) → p < M.size → q < M.size → Parts M d p q → d ≤ length before → length word ≡ length before
        → SpelledTo M p q d word one other d
        → ((j : ℕ) → d ≤ j → at word j ≡ at before j)
        → word ≡ written (word_from M d p q) before
    spelled_done p q d before word one other k l h room long s rest =
        let e : length (word_from M d p q) ≡ d = (word_tells M lawful d p q k l h.here h.before).1 in
        written_is (word_from M d p q) before word long (omega arith) (λ j m. s.front j (omega arith)) (λ j m. rest j (omega arith))

module _ (t : NextStates) (w : LastLayer) (p q d : ℕ) where
  -- The loop so far: two states, i signs of the word for every machine that the last layer is of, and behind them what was there.
  pub record Spelling (before word : List ℕ) (one other i : ℕ) : Type 0 where
    pub long : length word ≡ length before
    pub inside : (one < t.sizes.states) × (other < t.sizes.states)
    pub rest : (j : ℕ) → i ≤ j → at word j ≡ at before j
    pub spells : (marks : List ℕ) → Keeps (machine_with t marks) w → d ≡ depth (machine_with t marks) p q → SpelledTo (machine_with t marks) p q d word one other i

  -- states that part have different last names
  parted : p < t.sizes.states → q < t.sizes.states → PartedBy t w p q d → named w p ≢ named w q
  parted l m (marks, h, e, r) u =
      let M : Machine = machine_with t marks in
      let f : FirstDiffers (suc (rounds M)) (λ i. at (layer M i) p) (λ i. at (layer M i) q) (depth M p q) = depth_differs M p q in
      f.here (omega arith) (layers_coarser M (depth M p q) (rounds M) p q l m (omega arith) (sym (h.names p l) ∙ u ∙ h.names q m))

  -- in every machine that the last layer is of they part in one of the layers
  parts_in : (marks : List ℕ) → p < t.sizes.states → q < t.sizes.states → PartedBy t w p q d → Keeps (machine_with t marks) w → d ≡ depth (machine_with t marks) p q
      → (d ≤ rounds (machine_with t marks)) × Parts (machine_with t marks) d p q
  parts_in marks l m b h e = apart_parts (machine_with t marks) w p q d h (omega (arith, h.size)) (omega (arith, h.size)) (parted l m b) e

  pub spelling_none : (before : List ℕ) → p < t.sizes.states → q < t.sizes.states → PartedBy t w p q d → Spelling before before p q 0
  spelling_none before l m b =
      let z : d - 0 ≡ d = omega arith in
      record {
        long = refl;
        inside = (l, m);
        rest = λ j h. refl;
        spells = λ marks h e. record {
          parts = rw z (parts_in marks l m b h e).1;
          front = λ j u. absurd (not-suc-le-zero u);
          ahead = λ j. ap₂ (λ (c x : ℕ). at (word_from (machine_with t marks) c p q) x) (sym z) (let w : 0 + j ≡ j = omega arith in w);
        };
      }

  module _ (l : p < t.sizes.states) (m : q < t.sizes.states) (b : PartedBy t w p q d) (before word : List ℕ) (one other i a : ℕ) (h : Spelling before word one other i) (u : i < d) (room : d ≤ length before) (f : PartingSign t w one other (d - 1 - i) a) where
    stepped : (marks : List ℕ) → Keeps (machine_with t marks) w → d ≡ depth (machine_with t marks) p q
        → (a < t.sizes.signs) × SpelledTo (machine_with t marks) p q d (set word i a) (next t one a) (next t other a) (i + 1)
    stepped marks s e =
        spelled_more (machine_with t marks) (held_lawful marks t.held) p q d i word one other a u (omega (arith, h.long)) h.inside.0 h.inside.1 (h.spells marks s e)
        (f marks s (omega (arith, (parts_in marks l m b s e).0)))

    -- what was found is a sign
    pub sign_in : a < t.sizes.signs
    sign_in = (stepped b.0 b.1 b.2).0

    pub spelling_more : (left right : ℕ) → left ≡ next t one a → right ≡ next t other a → Spelling before (set word i a) left right (i + 1)
    spelling_more left right e f =
        subst₂ (λ (x y : ℕ). Spelling before (set word i a) x y (i + 1)) (sym e) (sym f)
        (record {
          long = length-set word i a ∙ h.long;
          inside = (t.held.next_in one a h.inside.0 sign_in, t.held.next_in other a h.inside.1 sign_in);
          rest = λ j v. get_or-set_other word i j a 0 (omega arith) ∙ h.rest j (omega arith);
          spells = λ marks s e. (stepped marks s e).1;
        })

  pub spelling_done : p < t.sizes.states → q < t.sizes.states → PartedBy t w p q d → (before word : List ℕ) (one other i : ℕ) → d ≤ length before → i ≡ d → Spelling before word one other i
      → Spelled t w p q d before word
  spelling_done l m b before word one other i room w h marks s e =
      let M : Machine = machine_with t marks in
      let r : SpelledTo M p q d word one other d = subst (SpelledTo M p q d word one other) w (h.spells marks s e) in
      spelled_done M (held_lawful marks t.held) p q d before word one other l m (parts_in marks l m b s e).1 room h.long r (λ j v. h.rest j (omega arith))
