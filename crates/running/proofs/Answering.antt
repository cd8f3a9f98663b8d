-- The ways out of running a word or a line, each with its facts.
use mathlib.Core.Path.{◌≡◌, refl, sym, ap, ap₂, ◌∙◌}
use mathlib.Core.Logic.{◌≢◌}
use mathlib.Core.Bool.{not}
use mathlib.Core.List.{List, [], ◌∷◌}
use Prim.Native.Nat.{ℕ, ◌<◌}
use native.Mathlib.Omega.{arith}
use borrow.Author.Tests.{lt-ltb, le-ltb, eq-eqb, ne_eqb}
use lib.ListN.{length}
use Rattle.std.specs.Prelude.{Ok, Err}
use Rattle.counting.specs.Lists.{at}
use Rattle.automaton.specs.Machine.{Machine}
use Rattle.automaton.specs.Words.{Word, steps, ends}
use Rattle.automaton.proofs.Walks.{steps_next, steps_in}
use Rattle.table.specs.Answers.{gives, refuses}
use Rattle.table.specs.Judging.{judged, signs_of}
use Rattle.table.specs.Encoding.{machine_in, machine_of}
use Rattle.table.specs.Accepted.{Good}
use Rattle.table.specs.Tables.{unmarked, TableOf}
use Rattle.table.specs.declared.answer.Sizes.{Sizes}
use Rattle.table.specs.declared.tables.Table.{Table}
use Rattle.table.proofs.Chains.{stops, goes_on, refused, passed}
use Rattle.table.proofs.Openings.{good_given}
use Rattle.table.proofs.Handing.{marks_in, nexts_in, machine_is, held, held_lawful}
use Rattle.running.specs.Plan.{plan1, spelled}
use Rattle.running.specs.Running.{bad_sign, walked, ran_word, ran_line}
use Rattle.running.proofs.Walking.{strange_of, stands_of, word_of}

pub word_refused : (file word : List ℕ) {number place : ℕ} → judged file ≡ refuses number place → ran_word file word ≡ refuses number place
unfolding ran_word
word_refused file word e = stops _ e

pub line_refused : (file line : List ℕ) {number place : ℕ} → judged file ≡ refuses number place → ran_line file line ≡ refuses number place
unfolding ran_line
line_refused file line e = stops _ e

module _ (file : List ℕ) (z : Sizes) (g : Good file z) where
  -- the machine that code walks in: its marks are not looked at
  abbrev M : Machine
  M = machine_in z.states z.signs z.start [] (nexts_in file z)

  -- where a word leads in it, and the mark there, are the file's
  pub ends_is : (w : List ℕ) → at (marks_in file z) (steps M z.start w) ≡ ends (machine_of file) (machine_of file).start w
  ends_is w =
      ap (at (marks_in file z)) (steps_next M (machine_in z.states z.signs z.start (marks_in file z) (nexts_in file z)) (λ q a. refl) z.start w)
      ∙ ap (λ (N : Machine). ends N N.start w) (machine_is file z g)

  pub steps_inside : (w : List ℕ) → Word z.signs w → steps M z.start w < z.states
  steps_inside w h = steps_in M (held_lawful [] (held file z g)) z.start w (held file z g).start-in h

  pub word_strange : (word : List ℕ) (i : ℕ) → walked M word ≡ Err i → ran_word file word ≡ refuses 10 i
  unfolding ran_word
  word_strange word i e =
      let (b, l) = strange_of M word i e in
      let f : bad_sign (signs_of file) word ≡ i = ap (λ (k : ℕ). bad_sign k word) (sym g.signs) ∙ b in
      goes_on _ (good_given g) ∙ stops _ (refused 10 _ (lt-ltb _ (length word) (rw f l))) ∙ ap (refuses 10) f

  pub word_stands : (word : List ℕ) (q : ℕ) → walked M word ≡ Ok q → (q < z.states) × (ran_word file word ≡ gives (at (marks_in file z) q ∷ []))
  unfolding ran_word
  word_stands word q e =
      let (b, f) = stands_of M word q e in
      let h : Word z.signs word = word_of z.signs word b in
      let c : bad_sign (signs_of file) word ≡ length word = ap (λ (k : ℕ). bad_sign k word) (sym g.signs) ∙ b in (
        rw f (steps_inside word h),
        goes_on _ (good_given g) ∙ goes_on _ (passed 10 _ (le-ltb _ (length word) (omega arith))) ∙ ap (λ (x : ℕ). gives (x ∷ [])) (sym (ends_is word) ∙ ap (at (marks_in file z)) (sym f)),
      )

  pub line_narrow : (line : List ℕ) → z.signs ≢ 47 → ran_line file line ≡ refuses 9 0
  unfolding ran_line
  line_narrow line u = goes_on _ (good_given g) ∙ stops _ (refused 9 0 (ap not (ne_eqb (signs_of file) 47 (λ e. u (g.signs ∙ e)))))

  pub line_ends : (line : List ℕ) (q : ℕ) → z.signs ≡ 47 → q ≡ steps M z.start (spelled plan1 line) → ran_line file line ≡ gives (at (marks_in file z) q ∷ [])
  unfolding ran_line
  line_ends line q k f =
      goes_on _ (good_given g)
      ∙ goes_on _ (passed 9 0 (ap not (eq-eqb (signs_of file) 47 (sym g.signs ∙ k))))
      ∙ ap (λ (x : ℕ). gives (x ∷ [])) (sym (ends_is (spelled plan1 line)) ∙ ap (at (marks_in file z)) (sym f))

-- and of a table lent from the file
module _ {file : List ℕ} {t : Table} (o : TableOf file t) where
  walk_is : (word : List ℕ) → walked (unmarked t.nexts) word ≡ walked (M file t.nexts.sizes o.good) word
  walk_is word = ap (λ (nexts : List ℕ). walked (machine_in t.nexts.sizes.states t.nexts.sizes.signs t.nexts.sizes.start [] nexts) word) o.nexts

  pub lent_strange : (word : List ℕ) (i : ℕ) → Err i ≡ walked (unmarked t.nexts) word → refuses 10 i ≡ ran_word file word
  lent_strange word i e = sym (word_strange file t.nexts.sizes o.good word i (sym (e ∙ walk_is word)))

  pub lent_inside : (word : List ℕ) (q : ℕ) → Ok q ≡ walked (unmarked t.nexts) word → q < length t.marks.bytes.now
  lent_inside word q e = omega (arith, (word_stands file t.nexts.sizes o.good word q (sym (e ∙ walk_is word))).0, t.sized)

  pub lent_stands : (word : List ℕ) (q mark : ℕ) → Ok q ≡ walked (unmarked t.nexts) word → mark ≡ at t.marks.bytes.now q → gives (mark ∷ []) ≡ ran_word file word
  lent_stands word q mark e f =
      ap (λ (x : ℕ). gives (x ∷ [])) (f ∙ ap (λ (marks : List ℕ). at marks q) o.marks) ∙ sym (word_stands file t.nexts.sizes o.good word q (sym (e ∙ walk_is word))).1

  pub lent_narrow : (line : List ℕ) → t.nexts.sizes.signs ≢ 47 → refuses 9 0 ≡ ran_line file line
  lent_narrow line u = sym (line_narrow file t.nexts.sizes o.good line u)

  pub lent_line : (line plan : List ℕ) (q mark : ℕ) → t.nexts.sizes.signs ≡ 47 → plan ≡ plan1 → q ≡ steps (unmarked t.nexts) t.nexts.sizes.start (spelled plan line) → mark ≡ at t.marks.bytes.now q → gives (mark ∷ []) ≡ ran_line file line
  lent_line line plan q mark k p e f =
      let z : Sizes = t.nexts.sizes in
      ap (λ (x : ℕ). gives (x ∷ [])) (f ∙ ap (λ (marks : List ℕ). at marks q) o.marks)
      ∙ sym (line_ends file z o.good line q k (e ∙ ap₂ (λ (nexts plan : List ℕ). steps (machine_in z.states z.signs z.start [] nexts) z.start (spelled plan line)) o.nexts p))
