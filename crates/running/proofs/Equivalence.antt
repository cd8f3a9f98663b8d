-- Two right files over the same signs give every word the same answer exactly when their machines are equivalent; then every line too.
-- Rests on the ways out of running.
use mathlib.Core.Path.{◌≡◌, refl, sym, ap, subst, ◌∙◌}
use mathlib.Core.Logic.{◌≢◌}
use mathlib.Core.List.{List, [], ◌∷◌}
use Prim.Native.Nat.{ℕ, ◌<◌}
use native.Mathlib.Decide.{ℕ_discrete, dec_lt}
use native.Mathlib.Omega.{arith}
use lib.ListN.{length}
use Rattle.automaton.specs.Words.{Word, ends, Equivalent}
use Rattle.table.specs.Answers.{gives, refuses}
use Rattle.table.specs.Judging.{states_of, signs_of, start_of}
use Rattle.table.specs.Rows.{Right}
use Rattle.table.specs.Encoding.{machine_of}
use Rattle.table.specs.Accepted.{Good}
use Rattle.table.specs.declared.answer.Sizes.{Sizes}
use Rattle.running.specs.Plan.{plan1, spelled}
use Rattle.running.specs.Running.{bad_sign, ran_word, ran_line}
use Rattle.running.proofs.Walking.{walk_strange, walk_stands, bad_most, word_of, word_clean}
use Rattle.running.proofs.Signs.{plan_1, spelled_word}
use Rattle.running.proofs.Answering.{ends_is, word_strange, word_stands, line_narrow, line_ends}

-- the mark that a file's machine gives a word
abbrev mark_of : List ℕ → List ℕ → ℕ
mark_of file word = ends (machine_of file) (machine_of file).start word

module _ (file : List ℕ) (r : Right file) where
  abbrev sizes : Sizes
  sizes = record { states = states_of file; signs = signs_of file; start = start_of file }

  good : Good file sizes
  good = record { states = refl; signs = refl; start = refl; range = r.fields.marks.sizes.range; right = r }

  strange_refused : (word : List ℕ) → bad_sign (signs_of file) word < length word → ran_word file word ≡ refuses 10 (bad_sign (signs_of file) word)
  strange_refused word l = word_strange file sizes good word _ (walk_strange _ word _ refl l)

  word_given : (word : List ℕ) → Word (signs_of file) word → ran_word file word ≡ gives (mark_of file word ∷ [])
  word_given word h =
      (word_stands file sizes good word _ (walk_stands _ word (word_clean (signs_of file) word h))).1
      ∙ ap (λ (x : ℕ). gives (x ∷ [])) (ends_is file sizes good word)

  line_given : (line : List ℕ) → signs_of file ≡ 47 → ran_line file line ≡ gives (mark_of file (spelled plan1 line) ∷ [])
  line_given line e = line_ends file sizes good line _ e refl ∙ ap (λ (x : ℕ). gives (x ∷ [])) (ends_is file sizes good (spelled plan1 line))

  line_refused : (line : List ℕ) → signs_of file ≢ 47 → ran_line file line ≡ refuses 9 0
  line_refused line u = line_narrow file sizes good line u

module _ (file other : List ℕ) (r : Right file) (s : Right other) where
  pub words_equivalent : signs_of file ≡ signs_of other → ((word : List ℕ) → ran_word file word ≡ ran_word other word) → Equivalent (machine_of file) (machine_of other)
  words_equivalent e same = record {
    signs = e;
    word = λ w h.
        let f : gives (mark_of file w ∷ []) ≡ gives (mark_of other w ∷ []) = sym (word_given file r w h) ∙ same w ∙ word_given other s w (subst (λ (k : ℕ). Word k w) e h) in
        cc;
  }

  module _ (e : Equivalent (machine_of file) (machine_of other)) where
    pub equivalent_words : (word : List ℕ) → ran_word file word ≡ ran_word other word
    equivalent_words word = by (dec_lt (bad_sign (signs_of file) word) (length word))
      where
        bad : bad_sign (signs_of file) word ≡ bad_sign (signs_of other) word
        bad = ap (λ (k : ℕ). bad_sign k word) e.signs

        by : Dec (bad_sign (signs_of file) word < length word) → ran_word file word ≡ ran_word other word
        by (yes l) = strange_refused file r word l ∙ ap (refuses 10) bad ∙ sym (strange_refused other s word (omega (arith, bad)))
        by (no u) =
            let h : Word (signs_of file) word = word_of (signs_of file) word (omega (arith, bad_most (machine_of file) word)) in
            word_given file r word h ∙ ap (λ (x : ℕ). gives (x ∷ [])) (e.word word h) ∙ sym (word_given other s word (subst (λ (k : ℕ). Word k word) e.signs h))

    pub equivalent_lines : (line : List ℕ) → ran_line file line ≡ ran_line other line
    equivalent_lines line = by (ℕ_discrete (signs_of file) 47)
      where
        by : Dec (signs_of file ≡ 47) → ran_line file line ≡ ran_line other line
        by (yes f) =
            let h : Word (signs_of file) (spelled plan1 line) = subst (λ (k : ℕ). Word k (spelled plan1 line)) (sym f) (spelled_word plan1 plan_1 line) in
            line_given file r line f ∙ ap (λ (x : ℕ). gives (x ∷ [])) (e.word (spelled plan1 line) h) ∙ sym (line_given other s line (sym e.signs ∙ f))
        by (no u) = line_refused file r line u ∙ sym (line_refused other s line (λ f. u (e.signs ∙ f)))
