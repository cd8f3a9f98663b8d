-- The lists of the rounds as parts of the work slice, one behind the other: what the slice holds, they hold, and the other way round.
use mathlib.Core.Path.{◌≡◌, refl, sym, ap, subst, ◌∙◌}
use mathlib.Core.List.{List, ◌++◌}
use Prim.Native.Nat.{ℕ, ◌-◌, ◌*◌, ◌≤◌, ◌<◌}
use native.Mathlib.Omega.{arith}
use lib.ListN.{length, take}
use lib.Seq.{ext_get_or}
use Rattle.std.proofs.lemmas.List.{places, take-append-le, take_all}
use Rattle.counting.specs.Lists.{at}
use Rattle.automaton.specs.Machine.{Machine}
use Rattle.automaton.specs.Layers.{layer}
use Rattle.automaton.proofs.Alikes.{layer-length}
use Rattle.table.specs.Tables.{machine}
use Rattle.table.specs.declared.tables.Table.{Table}
use Rattle.layering.specs.Sized.{Sized}
use Rattle.layering.specs.Work.{this, born, from, marked_by}
use Rattle.layering.specs.Layered.{InLayer, AtLayer, Rested, Settled, Begun}
use Rattle.layering.proofs.Starting.{begins, settled}

-- The parts of the work slice, each but the last n numbers.
pub record Parts (n : ℕ) (work names laters links births parents heads rest : List ℕ) : Type 0 where
  pub whole : work ≡ names ++ (laters ++ (links ++ (births ++ (parents ++ (heads ++ rest)))))
  pub long : length names ≡ n
  pub sized : Sized n laters links births parents heads

module _ {n : ℕ} {work names laters links births parents heads rest : List ℕ} (p : Parts n work names laters links births parents heads rest) where
  at_names : (x : ℕ) → x < n → at names x ≡ this work x
  at_names x l = let e = p.long in let s = p.sized in rw p.whole (grind (arith, places))

  at_births : (x : ℕ) → x < n → at births x ≡ born n work x
  at_births x l = let e = p.long in let s = p.sized in rw p.whole (grind (arith, places))

  at_parents : (x : ℕ) → x < n → at parents x ≡ from n work x
  at_parents x l = let e = p.long in let s = p.sized in rw p.whole (grind (arith, places))

  taken : names ≡ take n work
  taken = let e = p.long in rw p.whole (sym (take-append-le n names _ (omega arith) ∙ take_all n names (omega arith)))

  at_rest : (i : ℕ) → 6 * n ≤ i → at rest (i - 6 * n) ≡ at work i
  at_rest i l = let e = p.long in let s = p.sized in rw p.whole (grind (arith, places))

-- a layer that the slice holds
pub parts_hold : {M : Machine} {i : ℕ} {work names laters links births parents heads rest : List ℕ}
    → Parts M.size work names laters links births parents heads rest → InLayer M i work → AtLayer M i names births parents
parts_hold {M} {i} {names = names} p h = record {
  reached = h.reached;
  named = ext_get_or 0 names (layer M i) (p.long ∙ sym (layer-length M i)) (λ x l. let k : x < M.size = omega (arith, p.long) in at_names p x k ∙ h.names x k);
  born-in = λ c l e. at_births p c l ∙ h.births c l e;
  comes_from = λ c l e f. at_parents p c l ∙ h.parents c l e f;
}

-- a layer that the lists hold
pub parts_held : {M : Machine} {i : ℕ} {work names laters links births parents heads rest : List ℕ}
    → Parts M.size work names laters links births parents heads rest → AtLayer M i names births parents → InLayer M i work
parts_held p h = record {
  reached = h.reached;
  names = λ x l. sym (at_names p x l) ∙ ap (λ (xs : List ℕ). at xs x) h.named;
  births = λ c l e. sym (at_births p c l) ∙ h.born-in c l e;
  parents = λ c l e f. sym (at_parents p c l) ∙ h.comes_from c l e f;
}

-- what the rounds leave in the lists, with the rest of the slice as it was
parts_settled : {M : Machine} {r : ℕ} {work names laters links births parents heads rest after names' laters' links' births' parents' heads' : List ℕ}
    → Parts M.size work names laters links births parents heads rest → Parts M.size after names' laters' links' births' parents' heads' rest
    → Rested M names' births' parents' r → Settled M work after r
parts_settled p q s = record {
  long = (let a = p.long in let b = p.sized in let c = q.long in let d = q.sized in rw (p.whole, q.whole) (grind (arith, places)));
  last = s.last;
  layered = parts_held q s.layered;
  beyond = λ i l. sym (at_rest q i l) ∙ at_rest p i l;
}

module _ (t : Table) {before work names laters links births parents heads rest : List ℕ}
    (b : Begun (length t.marks.bytes.now) t.marks.bytes.now before work) (p : Parts t.nexts.sizes.states work names laters links births parents heads rest) where
  -- there are as many marks as states
  begun : Begun t.nexts.sizes.states t.marks.bytes.now before work
  begun = subst (λ (n : ℕ). Begun n t.marks.bytes.now before work) t.sized b

  pub parts_begin : AtLayer (marked_by t.nexts names) 0 names births parents
  parts_begin =
      subst (λ (kinds : List ℕ). AtLayer (marked_by t.nexts kinds) 0 names births parents) (sym (taken p))
      (parts_hold p (begins t.nexts.sizes.states t.nexts.sizes.signs t.nexts.sizes.start t.marks.bytes.now t.nexts.bytes.now before work begun))

  pub parts_rest : {r : ℕ} {names' laters' links' births' parents' heads' : List ℕ} → length names' ≡ t.nexts.sizes.states → Sized t.nexts.sizes.states laters' links' births' parents' heads'
      → Rested (marked_by t.nexts names) names' births' parents' r → Settled (machine t) before (names' ++ (laters' ++ (links' ++ (births' ++ (parents' ++ (heads' ++ rest)))))) r
  parts_rest {r} {names'} {births' = births'} {parents' = parents'} long sized s =
      settled t.nexts.sizes.states t.nexts.sizes.signs t.nexts.sizes.start t.marks.bytes.now t.nexts.bytes.now before work begun _ r
      (parts_settled p (record { whole = refl; long = long; sized = sized }) (subst (λ (kinds : List ℕ). Rested (marked_by t.nexts kinds) names' births' parents' r) (taken p) s))
