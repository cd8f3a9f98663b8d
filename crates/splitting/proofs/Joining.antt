-- The eight lists and the rest of the work slice one behind the other: the two lists of a splitting, and what stands behind. Rests on the laws of parts of a list.
use mathlib.Core.Path.{◌≡◌, sym, ap, subst, ◌∙◌}
use mathlib.Core.List.{List, ◌++◌}
use Prim.Native.Nat.{ℕ, ◌+◌, ◌*◌, ◌-◌, ◌≤◌}
use native.Mathlib.Omega.{arith}
use lib.ListN.{length, length-append, get_or-append}
use lib.Seq.{get_or-append-add}
use Rattle.counting.specs.Lists.{at}
use Rattle.automaton.specs.Machine.{Machine}
use Rattle.refining.specs.Lists.{WellFormed}
use Rattle.refining.specs.Run.{run_lists, run_takes, run_entries}
use Rattle.splitting.specs.declared.rooms.Rooms.{Rooms}
use Rattle.splitting.specs.Work.{lists_in, lists_of, Classed}
use Rattle.splitting.specs.Running.{Ran, RanIn}
use Rattle.splitting.proofs.Dueness.{classed_formed}
use Rattle.splitting.proofs.Places.{lists_are}

abbrev pub joined : List ℕ → List ℕ → List ℕ → List ℕ → List ℕ → List ℕ → List ℕ → List ℕ → List ℕ → List ℕ
joined s f g d l t c p rest = s ++ (f ++ (g ++ (d ++ (l ++ (t ++ (c ++ (p ++ rest)))))))

-- behind a list of n numbers
past : (n : ℕ) (xs ys : List ℕ) (j i : ℕ) → length xs ≡ n → j ≡ n + i → at (xs ++ ys) j ≡ at ys i
past n xs ys j i long e = ap (at (xs ++ ys)) (omega (arith, long, e)) ∙ get_or-append-add xs ys i 0

-- A list that is eight lists of n numbers and a rest.
pub record Joined (n : ℕ) (work s f g d l t c p rest : List ℕ) : Type 0 where
  pub whole : work ≡ joined s f g d l t c p rest
  pub long : (length s ≡ n) × (length f ≡ n) × (length g ≡ n) × (length d ≡ n) × (length l ≡ n) × (length t ≡ n) × (length c ≡ n) × (length p ≡ n)

module _ (n : ℕ) (work s f g d l t c p rest : List ℕ) (j : Joined n work s f g d l t c p rest) where
  joined_long : length work ≡ 8 * n + length rest
  joined_long = ap length j.whole ∙ omega (arith, j.long.0, j.long.1, j.long.2, j.long.3, j.long.4, j.long.5, j.long.6, j.long.7, length-append {A = ℕ})

  sixth : (i : ℕ) → at work (6 * n + i) ≡ at (c ++ (p ++ rest)) i
  sixth i =
      ap (λ (xs : List ℕ). at xs (6 * n + i)) j.whole
      ∙ past n s _ (6 * n + i) (5 * n + i) j.long.0 (omega arith)
      ∙ past n f _ (5 * n + i) (4 * n + i) j.long.1 (omega arith)
      ∙ past n g _ (4 * n + i) (3 * n + i) j.long.2 (omega arith)
      ∙ past n d _ (3 * n + i) (2 * n + i) j.long.3 (omega arith)
      ∙ past n l _ (2 * n + i) (n + i) j.long.4 (omega arith)
      ∙ past n t _ (n + i) i j.long.5 (omega arith)

  joined_rest : (i : ℕ) → 8 * n ≤ i → at work i ≡ at rest (i - 8 * n)
  joined_rest i m =
      ap (at work) (omega arith)
      ∙ sixth (2 * n + (i - 8 * n))
      ∙ past n c _ (2 * n + (i - 8 * n)) (n + (i - 8 * n)) j.long.6 (omega arith)
      ∙ past n p rest (n + (i - 8 * n)) (i - 8 * n) j.long.7 (omega arith)

  pub joined_lists : lists_in n work ≡ record { class = c; pending = p }
  joined_lists = lists_are n work (record { class = c; pending = p }) (omega (arith, joined_long)) (j.long.6, j.long.7)
      (λ x k. sixth x ∙ get_or-append c (p ++ rest) 0 x (omega (arith, j.long.6)))
      (λ x k. ap (at work) (omega arith) ∙ sixth (n + x) ∙ past n c _ (n + x) x j.long.6 (omega arith) ∙ get_or-append p rest 0 x (omega (arith, j.long.7)))

  -- well-formed lists are classed
  pub classed_joined : (k : ℕ) → WellFormed n k (lists_in n work) → Classed (length c) c
  classed_joined k formed =
      let w : WellFormed n k (record { class = c; pending = p }) = subst (WellFormed n k) joined_lists formed in
      subst (λ (m : ℕ). Classed m c) (sym j.long.6) (classed_formed n k (record { class = c; pending = p }) (omega (arith, j.long.6)) w)

-- takes in rooms are takes on the work slice
pub ran_joined : (M : Machine) (budget : ℕ) (work s f g d l t c p rest : List ℕ) → Joined M.size work s f g d l t c p rest
    → (w w' : Rooms) (takes looked : ℕ) → lists_of w ≡ record { class = c; pending = p } → Ran M budget w w' takes looked
    → (after : List ℕ)
    → after ≡ joined w'.sizes.now w'.firsts.now w'.gones.now w'.renamed.now w'.leds.now w'.touched.now w'.classes.now w'.pendings.now rest
    → RanIn M budget work after takes looked
ran_joined M budget work s f g d l t c p rest j w w' takes looked e r after is =
    let z = r.sized in
    let j' : Joined M.size after w'.sizes.now w'.firsts.now w'.gones.now w'.renamed.now w'.leds.now w'.touched.now w'.classes.now w'.pendings.now rest = record {
      whole = is;
      long = (z.sizes, z.firsts, z.gones, z.renamed, z.leds, z.touched, z.classes, z.pendings);
    } in
    let one : lists_in M.size work ≡ lists_of w = joined_lists M.size work s f g d l t c p rest j ∙ sym e in
    record {
      long = joined_long M.size after _ _ _ _ _ _ _ _ rest j' ∙ sym (joined_long M.size work s f g d l t c p rest j);
      lists = joined_lists M.size after _ _ _ _ _ _ _ _ rest j' ∙ r.lists ∙ ap (run_lists M budget) (sym one);
      counts = (r.counts.0 ∙ ap (run_takes M budget) (sym one), r.counts.1 ∙ ap (run_entries M budget) (sym one));
      beyond = λ i m. joined_rest M.size after _ _ _ _ _ _ _ _ rest j' i m ∙ sym (joined_rest M.size work s f g d l t c p rest j i m);
    }
