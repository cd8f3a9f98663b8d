-- The states named anew one by one: none yet, and one more.
use mathlib.Core.Path.{◌≡◌, refl, sym, ap, subst, ◌∙◌}
use mathlib.Core.Bool.{Bool, not, ◌&&◌, beq}
use mathlib.Core.List.{List}
use Prim.Native.Nat.{ℕ, ◌+◌, ◌≤◌, ◌<◌}
use native.Mathlib.Nat.{not-suc-le-zero}
use native.Mathlib.Decide.{ℕ_discrete}
use native.Mathlib.Omega.{arith}
use borrow.Author.Tests.{le-ltb}
use lib.Dec.{eqb}
use lib.ListN.{length}
use Rattle.counting.specs.Lists.{at}
use Rattle.counting.specs.Least.{pick, least}
use Rattle.counting.specs.Counts.{count}
use Rattle.counting.proofs.Tallies.{count_most}
use Rattle.automaton.specs.Machine.{Machine}
use Rattle.splitting.specs.Work.{leads_to, goes_by, goer, first_goer, Classed, Renamed}
use Rattle.splitting.specs.Parts.{Named}
use Rattle.splitting.proofs.Goers.{first_other, count_other, first_own, count_own, name_own}

module _ (M : Machine) (class : List ℕ) (q a : ℕ) where
  pub renamed_none : (first gone name : List ℕ) → (length first ≡ M.size) × (length gone ≡ M.size) × (length name ≡ M.size) → ((c : ℕ) → c < M.size → (at first c ≡ 0) × (at gone c ≡ 0))
      → Renamed M class q a 0 first gone name
  unfolding first_goer pick count
  renamed_none first gone name room h = record {
    room = room;
    firsts = λ c l. rw (le-ltb (least 0 (goer M class q a c)) 0 (omega arith)) (h c l).0;
    gones = λ c l. (h c l).1;
    renamed = λ y l. absurd (not-suc-le-zero l);
  }

  module _ (x : ℕ) (first gone name : List ℕ) (r : Renamed M class q a x first gone name) where
    abbrev p : ℕ
    p = at class x

    pub gone_small : (c : ℕ) → c < M.size → at gone c ≤ x
    gone_small c l = omega (arith, r.gones c l, count_most x (goer M class q a c))

    more : (first' gone' name' : List ℕ) → x < M.size → Classed M.size class → Named p x (goes_by M class q a x) first gone name first' gone' name' → Renamed M class q a (x + 1) first' gone' name'
    more first' gone' name' l h d = record {
      room = (d.long.0 ∙ r.room.0, d.long.1 ∙ r.room.1, d.long.2 ∙ r.room.2);
      firsts = λ c k.
          elim (ℕ_discrete c p) [
            | yes e ↦ subst (λ (z : ℕ). at first' z ≡ first_goer M class q a (x + 1) z) (sym e) first_is
            | no u ↦ d.other_firsts c u ∙ r.firsts c k ∙ sym (first_other M class q a c x (omega arith))
          ];
      gones = λ c k.
          elim (ℕ_discrete c p) [
            | yes e ↦ subst (λ (z : ℕ). at gone' z ≡ count (x + 1) (goer M class q a z)) (sym e) gone_is
            | no u ↦ d.other_gones c u ∙ r.gones c k ∙ sym (count_other M class q a c x (omega arith))
          ];
      renamed = λ y k.
          elim (ℕ_discrete y x) [
            | yes e ↦ subst (λ (z : ℕ). at name' z ≡ pick (goes_by M class q a z) (least M.size (goer M class q a (at class z))) (at class z)) (sym e) name_is
            | no u ↦ d.other_names y u ∙ r.renamed y (omega arith)
          ];
    }
      where
        in' : p < M.size
        in' = omega (arith, h.low x l)

        first_is : at first' p ≡ first_goer M class q a (x + 1) p
        first_is =
            d.first
            ∙ ap (λ (z : ℕ). pick (goes_by M class q a x && eqb z 0) x z) (r.firsts p in')
            ∙ first_own M class q a M.size p x l h refl

        gone_is : at gone' p ≡ count (x + 1) (goer M class q a p)
        gone_is = d.gone ∙ ap (λ (z : ℕ). pick (goes_by M class q a x) (z + 1) z) (r.gones p in') ∙ count_own M class q a p x refl

        name_is : at name' x ≡ pick (goes_by M class q a x) (least M.size (goer M class q a p)) p
        name_is = d.name ∙ ap (λ (z : ℕ). pick (goes_by M class q a x) z p) first_is ∙ name_own M class q a M.size p x l refl

    -- the state's class c and whether it goes as the code has them
    pub renamed_more : (first' gone' name' : List ℕ) (c : ℕ) (goes : Bool) → x < M.size → Classed M.size class → c ≡ at class x → goes ≡ goes_by M class q a x
        → Named c x goes first gone name first' gone' name'
        → Renamed M class q a (x + 1) first' gone' name'
    renamed_more first' gone' name' c goes l h e f d =
        more first' gone' name' l h (subst (λ (b : Bool). Named p x b first gone name first' gone' name') f (subst (λ (z : ℕ). Named z x goes first gone name first' gone' name') e d))

  -- whether a state goes, by its own test and its name's
  pub goes_by_lem : (x c : ℕ) (own name : Bool) → c ≡ at class x → own ≡ leads_to M class q a x → name ≡ leads_to M class q a c → not (beq own name) ≡ goes_by M class q a x
  unfolding goes_by
  goes_by_lem x c own name e f g = rw (f, g, e) refl
