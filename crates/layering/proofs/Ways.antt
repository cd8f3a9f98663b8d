-- The ways out of the layered call, each with its facts.
use mathlib.Core.Path.{◌≡◌, sym, ap, ap₂, subst₂, ◌∙◌}
use mathlib.Core.List.{List, [], ◌∷◌}
use Prim.Native.Nat.{ℕ, ◌*◌, ◌≤◌, ◌<◌}
use native.Mathlib.Omega.{arith}
use borrow.Author.Tests.{lt-ltb, le-ltb}
use lib.Dec.{eqb}
use lib.ListN.{length, take}
use lib.Seq.{ext_get_or, get_or-take, length-take-le}
use Rattle.counting.specs.Lists.{at}
use Rattle.counting.proofs.Tallies.{count_cong}
use Rattle.automaton.specs.Machine.{Machine}
use Rattle.automaton.specs.Layers.{layer, rounds, classes, class_count}
use Rattle.automaton.proofs.Alikes.{layer-length}
use Rattle.lending.specs.Memory.{cleared, written}
use Rattle.lending.proofs.Memories.{cleared_same}
use Rattle.table.specs.Answers.{gives, refuses}
use Rattle.table.specs.Judging.{judged}
use Rattle.table.specs.Leaving.{left}
use Rattle.table.specs.Tables.{machine, TableOf}
use Rattle.table.specs.declared.tables.Table.{Table}
use Rattle.table.specs.Encoding.{machine_in}
use Rattle.table.specs.Accepted.{Good}
use Rattle.table.specs.declared.answer.Sizes.{Sizes}
use Rattle.table.proofs.Leavings.{file_refused, file_given, refuses_here, refuses_not}
use Rattle.table.proofs.Openings.{good_given}
use Rattle.table.proofs.Handing.{marks_in, nexts_in, machine_is}
use Rattle.layering.specs.Layered.{Settled}
use Rattle.layering.specs.Calls.{layers_of, layers_leave}

pub layers_refused : (file work result : List ℕ) {number place : ℕ} → judged file ≡ refuses number place → left (refuses number place) (work ∷ result ∷ []) ≡ layers_leave file work result
unfolding layers_leave
layers_refused file work result e = sym (file_refused file (work ∷ result ∷ []) _ e)

-- the names in the work slice are the classes
module _ (M : Machine) (before after : List ℕ) (r : ℕ) (s : Settled M before after r) where
  named : (x : ℕ) → x < M.size → at after x ≡ at (classes M) x
  unfolding classes
  named x l = s.layered.names x l ∙ ap (λ (i : ℕ). at (layer M i) x) s.last

  pub names_are : M.size ≤ length before → take M.size after ≡ classes M
  unfolding classes
  names_are room =
      let long : length (take M.size after) ≡ M.size = length-take-le M.size after (omega (arith, s.long)) in
      ext_get_or 0 (take M.size after) (classes M) (long ∙ sym (layer-length M (rounds M)))
      (λ x l. let m : x < M.size = omega (arith, long) in get_or-take M.size after x 0 m ∙ named x m)

  pub count_is : class_count M.size after ≡ class_count M.size (classes M)
  unfolding class_count
  count_is = count_cong M.size _ _ (λ x l. ap (λ (c : ℕ). eqb c x) (named x l))

module _ (file : List ℕ) (z : Sizes) (g : Good file z) (work result : List ℕ) where
  -- the machine whose bodies the call hands on
  abbrev pub machine_handed : Machine
  machine_handed = machine_in z.states z.signs z.start (marks_in file z) (nexts_in file z)

  given : layers_leave file work result ≡ layers_of machine_handed work result
  unfolding layers_leave
  given = file_given file (work ∷ result ∷ []) _ (good_given g) ∙ ap (λ (M : Machine). layers_of M work result) (sym (machine_is file z g))

  pub layers_narrow : length work < 16 * z.states → left (refuses 11 (16 * z.states)) (work ∷ result ∷ []) ≡ layers_leave file work result
  unfolding layers_of
  layers_narrow l = sym (given ∙ refuses_here 11 (16 * z.states) (work ∷ result ∷ []) _ (lt-ltb (length work) (16 * z.states) l))

  module _ (room : 16 * z.states ≤ length work) where
    pub layers_short : length result < z.states → left (refuses 12 z.states) (cleared (16 * z.states) work ∷ result ∷ []) ≡ layers_leave file work result
    unfolding layers_of
    layers_short l =
        sym
        (given
        ∙ refuses_not 11 (16 * z.states) (work ∷ result ∷ []) _ (le-ltb (length work) (16 * z.states) room)
        ∙ refuses_here 12 z.states (cleared (16 * z.states) work ∷ result ∷ []) _ (lt-ltb (length result) z.states l))

    pub layers_found : z.states ≤ length result → (after : List ℕ) (r : ℕ) → Settled machine_handed work after r
        → left (gives (class_count z.states after ∷ r ∷ [])) (cleared (16 * z.states) after ∷ written (take z.states after) result ∷ []) ≡ layers_leave file work result
    unfolding layers_of
    layers_found l after r s =
        ap₂ left
        (ap₂ (λ (m i : ℕ). gives (m ∷ i ∷ [])) (count_is machine_handed work after r s) s.last)
        (ap₂ (λ (w c : List ℕ). w ∷ written c result ∷ []) (cleared_same (16 * z.states) after work s.long (λ j h. s.beyond j (omega arith))) (names_are machine_handed work after r s (omega arith)))
        ∙ sym
        (given
        ∙ refuses_not 11 (16 * z.states) (work ∷ result ∷ []) _ (le-ltb (length work) (16 * z.states) room)
        ∙ refuses_not 12 z.states (cleared (16 * z.states) work ∷ result ∷ []) _ (le-ltb (length result) z.states l))

-- the classes among the names, counted in the names alone
count_taken : (n : ℕ) (after : List ℕ) → n ≤ length after → class_count (length (take n after)) (take n after) ≡ class_count n after
unfolding class_count
count_taken n after room =
    let long : length (take n after) ≡ n = length-take-le n after room in
    ap (λ (m : ℕ). class_count m (take n after)) long
    ∙ count_cong n _ _ (λ x l. ap (λ (c : ℕ). eqb c x) (get_or-take n after x 0 l))

-- the same of a table that is lent from the file
module _ (file : List ℕ) (t : Table) (o : TableOf file t) (work result : List ℕ) where
  abbrev n : ℕ
  n = t.nexts.sizes.states

  pub lent_narrow : length work < 16 * n → left (refuses 11 (16 * n)) (work ∷ result ∷ []) ≡ layers_leave file work result
  lent_narrow = layers_narrow file t.nexts.sizes o.good work result

  module _ (room : 16 * n ≤ length work) where
    pub lent_short : length result < n → left (refuses 12 n) (cleared (16 * n) work ∷ result ∷ []) ≡ layers_leave file work result
    lent_short = layers_short file t.nexts.sizes o.good work result room

    pub lent_found : n ≤ length result → (after : List ℕ) (r : ℕ) → Settled (machine t) work after r
        → left (gives (class_count (length (take n after)) (take n after) ∷ r ∷ [])) (cleared (16 * n) after ∷ written (take n after) result ∷ []) ≡ layers_leave file work result
    lent_found l after r s =
        ap (λ (m : ℕ). left (gives (m ∷ r ∷ [])) (cleared (16 * n) after ∷ written (take n after) result ∷ [])) (count_taken n after (omega (arith, s.long)))
        ∙ layers_found file t.nexts.sizes o.good work result room l after r
        (subst₂ (λ (marks nexts : List ℕ). Settled (machine_in t.nexts.sizes.states t.nexts.sizes.signs t.nexts.sizes.start marks nexts) work after r) o.marks o.nexts s)
