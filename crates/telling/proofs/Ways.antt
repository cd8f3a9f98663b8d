-- The ways out of telling two states apart, each with its facts.
use mathlib.Core.Path.{◌≡◌, refl, sym, ap, subst, ap₂, ◌∙◌}
use mathlib.Core.Logic.{◌≢◌}
use mathlib.Core.List.{List, [], ◌∷◌}
use Prim.Native.Nat.{ℕ, ◌*◌, ◌-◌, ◌≤◌, ◌<◌}
use native.Mathlib.Omega.{arith}
use borrow.Author.Tests.{lt-ltb, le-ltb, le-leb, lt-leb}
use lib.ListN.{length, take, drop}
use lib.Seq.{get_or-take, length-take-le}
use Rattle.counting.specs.Lists.{at}
use Rattle.counting.specs.Least.{pick}
use Rattle.counting.proofs.Parts.{part_at}
use Rattle.automaton.specs.Machine.{Machine, Lawful}
use Rattle.automaton.specs.Layers.{layer, rounds, classes}
use Rattle.automaton.specs.Telling.{Telling, apart, telling, depth, word_from}
use Rattle.automaton.proofs.Settling.{classes_same}
use Rattle.automaton.proofs.Tellings.{depth_differs, word_tells, telling_alike}
use Rattle.lending.specs.Memory.{cleared, written}
use Rattle.table.specs.Answers.{gives, refuses}
use Rattle.table.specs.Judging.{judged}
use Rattle.table.specs.Leaving.{left}
use Rattle.table.specs.Encoding.{machine_in}
use Rattle.table.specs.Accepted.{Good}
use Rattle.table.specs.declared.answer.Sizes.{Sizes}
use Rattle.table.specs.Tables.{machine, TableOf}
use Rattle.table.specs.declared.tables.Table.{Table}
use Rattle.table.proofs.Leavings.{file_refused, file_given, refuses_here, refuses_not}
use Rattle.table.proofs.Openings.{good_given}
use Rattle.table.proofs.Handing.{marks_in, nexts_in, machine_is}
use Rattle.layering.specs.Layered.{InLayer, Settled}
use Rattle.telling.specs.declared.climbing.LastLayer.{LastLayer}
use Rattle.telling.specs.Kept.{Keeps}
use Rattle.telling.specs.Calls.{spoken, tell_of, tell_leaves}

-- once the rounds have settled, the last layer stands in three parts of the work slice
module _ (M : Machine) (before after : List ℕ) (r : ℕ) (s : Settled M before after r) where
  layered : InLayer M (rounds M) after
  layered = subst (λ (i : ℕ). InLayer M i after) s.last s.layered

  pub settled_names : (x : ℕ) → x < M.size → at (take M.size after) x ≡ at (layer M (rounds M)) x
  settled_names x l = get_or-take M.size after x 0 l ∙ layered.names x l

  pub settled_keeps : 6 * M.size ≤ length before → (last : LastLayer) → last.names.now ≡ take M.size after
      → last.births.now ≡ take (4 * M.size - 3 * M.size) (drop (3 * M.size) after)
      → last.parents.now ≡ take (5 * M.size - 4 * M.size) (drop (4 * M.size) after)
      → Keeps M last
  settled_keeps room last names births parents = record {
    size = sym (ap length names ∙ length-take-le M.size after (omega (arith, s.long)));
    names = λ x l. rw names (settled_names x l);
    births = λ c l e. rw (births, part_at (4 * M.size - 3 * M.size) (3 * M.size) after c (omega arith)) (layered.births c l e);
    parents = λ c l e u. rw (parents, part_at (5 * M.size - 4 * M.size) (4 * M.size) after c (omega arith)) (layered.parents c l e u);
  }

module _ (M : Machine) (lawful : Lawful M) (p q : ℕ) (k : p < M.size) (l : q < M.size) (work word : List ℕ) where
  module _ (names : List ℕ) (h : (x : ℕ) → x < M.size → at names x ≡ at (layer M (rounds M)) x) where
    name_is : (x : ℕ) → x < M.size → at names x ≡ at (classes M) x
    unfolding classes
    name_is x m = h x m

    -- one last name
    pub spoken_alike : at names p ≡ at names q → left (gives []) (work ∷ word ∷ []) ≡ spoken (telling M p q) work word
    unfolding spoken
    spoken_alike e =
        sym (ap (λ (t : Telling). spoken t work word) ((telling_alike M lawful p q k l).1 ((classes_same M lawful p q k l).0 (sym (name_is p k) ∙ e ∙ name_is q l))))

  module _ (d : ℕ) (e : d ≡ depth M p q) (m : d ≤ rounds M) where
    word_long : length (word_from M d p q) ≡ d
    word_long =
        let r = depth_differs M p q in
        (word_tells M lawful d p q k l (subst (λ (i : ℕ). at (layer M i) p ≢ at (layer M i) q) (sym e) (r.here (omega arith))) (λ i j. r.before i (omega arith))).1

    told_apart : spoken (telling M p q) work word ≡ spoken (apart (word_from M d p q)) work word
    unfolding telling pick
    told_apart = rw (sym e, le-ltb (rounds M) d m) refl

    pub spoken_short : length word < d → left (refuses 12 d) (work ∷ word ∷ []) ≡ spoken (telling M p q) work word
    unfolding spoken
    spoken_short h =
        sym
        (told_apart
        ∙ refuses_here 12 (length (word_from M d p q)) (work ∷ word ∷ []) _ (lt-ltb (length word) (length (word_from M d p q)) (omega (arith, word_long)))
        ∙ ap (λ (i : ℕ). left (refuses 12 i) (work ∷ word ∷ [])) word_long)

    pub spoken_apart : d ≤ length word → left (gives (d ∷ [])) (work ∷ written (word_from M d p q) word ∷ []) ≡ spoken (telling M p q) work word
    unfolding spoken
    spoken_apart h =
        sym
        (told_apart
        ∙ refuses_not 12 (length (word_from M d p q)) (work ∷ word ∷ []) _ (le-ltb (length word) (length (word_from M d p q)) (omega (arith, word_long)))
        ∙ ap (λ (i : ℕ). left (gives (i ∷ [])) (work ∷ written (word_from M d p q) word ∷ [])) word_long)

pub tell_refused : (file : List ℕ) (p q : ℕ) (work word : List ℕ) {number place : ℕ} → judged file ≡ refuses number place → left (refuses number place) (work ∷ word ∷ []) ≡ tell_leaves file p q work word
unfolding tell_leaves
tell_refused file p q work word e = sym (file_refused file (work ∷ word ∷ []) _ e)

module _ (file : List ℕ) (z : Sizes) (g : Good file z) (p q : ℕ) (work word : List ℕ) where
  -- the machine whose bodies the call hands on
  abbrev M : Machine
  M = machine_in z.states z.signs z.start (marks_in file z) (nexts_in file z)

  abbrev lent : List (List ℕ)
  lent = work ∷ word ∷ []

  given : tell_leaves file p q work word ≡ tell_of M p q work word
  unfolding tell_leaves
  given = file_given file lent _ (good_given g) ∙ ap (λ (N : Machine). tell_of N p q work word) (sym (machine_is file z g))

  pub tell-first : z.states ≤ p → left (refuses 10 0) lent ≡ tell_leaves file p q work word
  unfolding tell_of
  tell-first h = sym (given ∙ refuses_here 10 0 lent _ (le-leb z.states p h))

  module _ (k : p < z.states) where
    pub tell_second : z.states ≤ q → left (refuses 10 1) lent ≡ tell_leaves file p q work word
    unfolding tell_of
    tell_second h = sym (given ∙ refuses_not 10 0 lent _ (lt-leb z.states p k) ∙ refuses_here 10 1 lent _ (le-leb z.states q h))

    module _ (l : q < z.states) where
      pub tell_narrow : length work < 16 * z.states → left (refuses 11 (16 * z.states)) lent ≡ tell_leaves file p q work word
      unfolding tell_of
      tell_narrow h =
          sym
          (given
          ∙ refuses_not 10 0 lent _ (lt-leb z.states p k)
          ∙ refuses_not 10 1 lent _ (lt-leb z.states q l)
          ∙ refuses_here 11 (16 * z.states) lent _ (lt-ltb (length work) (16 * z.states) h))

      pub tell-spoken : 16 * z.states ≤ length work → spoken (telling M p q) (cleared (16 * z.states) work) word ≡ tell_leaves file p q work word
      unfolding tell_of
      tell-spoken h =
          sym
          (given
          ∙ refuses_not 10 0 lent _ (lt-leb z.states p k)
          ∙ refuses_not 10 1 lent _ (lt-leb z.states q l)
          ∙ refuses_not 11 (16 * z.states) lent _ (le-ltb (length work) (16 * z.states) h))

-- the last of them of a table that is lent from the file
pub lent_spoken : (file : List ℕ) (t : Table) (h : TableOf file t) (p q : ℕ) (work word : List ℕ) → p < t.nexts.sizes.states → q < t.nexts.sizes.states → 16 * t.nexts.sizes.states ≤ length work
    → spoken (telling (machine t) p q) (cleared (16 * t.nexts.sizes.states) work) word ≡ tell_leaves file p q work word
lent_spoken file t h p q work word k l m =
    ap₂ (λ (marks nexts : List ℕ). spoken (telling (machine_in t.nexts.sizes.states t.nexts.sizes.signs t.nexts.sizes.start marks nexts) p q) (cleared (16 * t.nexts.sizes.states) work) word) h.marks h.nexts
    ∙ tell-spoken file t.nexts.sizes h.good p q work word k l m
