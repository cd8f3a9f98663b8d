-- The three demands hold of every file.
-- Rests on the theorems of the crates below.
use mathlib.Core.Path.{◌≡◌, refl, sym, ap, subst, ◌∙◌}
use mathlib.Core.Logic.{◌≢◌, ◌↔◌}
use mathlib.Core.Bool.{Bool, true, false, not, true≢false}
use mathlib.Core.List.{List, [], ◌∷◌}
use Prim.Native.Nat.{ℕ, ◌*◌, ◌<◌}
use native.Mathlib.Omega.{arith}
use borrow.Author.Tests.{eqb-false, not-true, ne_eqb, le-ltb, lt-leb}
use lib.Dec.{eqb, ltb}
use lib.ListN.{length}
use Rattle.counting.specs.Least.{pick}
use Rattle.automaton.specs.Words.{Same, Inseparable}
use Rattle.automaton.specs.Telling.{Telling, alike, apart, telling}
use Rattle.automaton.proofs.Walks.{same_iff_inseparable}
use Rattle.automaton.proofs.Settling.{classes_same}
use Rattle.automaton.proofs.Tellings.{telling_alike, telling_apart}
use Rattle.refining.specs.Lists.{ill_formed}
use Rattle.table.specs.Answers.{Said, gives, refuses, when_given}
use Rattle.table.specs.Judging.{◌and_then◌, refuse, judged, states_of, signs_of}
use Rattle.table.specs.Rows.{Right}
use Rattle.table.specs.Encoding.{machine_of}
use Rattle.table.specs.Leaving.{refusing}
use Rattle.table.proofs.Refusals.{refused_exactly, accepted_exactly}
use Rattle.table.proofs.Encodings.{machine_in_range}
use Rattle.table.proofs.Leavings.{file_given, refuses_not}
use Rattle.running.specs.Running.{bad_sign, ran_word, ran_line}
use Rattle.layering.specs.Calls.{layers_of, layers_leave}
use Rattle.telling.specs.Calls.{spoken, tell_of, tell_leaves}
use Rattle.splitting.specs.Work.{lists}
use Rattle.splitting.specs.StartCall.{start_of, start_leaves}
use Rattle.splitting.specs.RunCall.{ran_from, run_of, run_leaves}
use Rattle.splitting.proofs.Demands.{calls_demand_3}
use Rattle.shrinking.specs.Shrunk.{shrunk, Accepted}
use Rattle.shrinking.specs.Calls.{shrink_of, shrink_leaves}
use Rattle.shrinking.proofs.Promises.{promised}
use Rattle.wylgentip.specs.Demands.{Nothing, Else, OfFile, signs_told, Refuses, Demand1, Demand2, Demands}
use Rattle.wylgentip.proofs.Listed.{Lists, less, most, either, lists_nothing, lists_else, lists_file, refuses_nothing, refuses_else, refuses_short, refuses_file}

-- the answers of running
given_then : (s t : Said) → when_given s t s ≡ s and_then t
unfolding ◌and_then◌ when_given
given_then (gives vs) t = refl
given_then (refuses m p) t = refl

refuse_then : (t : Bool) (m p : ℕ) (s : Said) → pick t (refuses m p) s ≡ refuse t m p and_then s
unfolding ◌and_then◌ refuse pick
refuse_then true m p s = refl
refuse_then false m p s = refl

word_lists : (file word : List ℕ) → Lists (OfFile file (Else (bad_sign (signs_of file) word < length word) 10 (bad_sign (signs_of file) word) Nothing)) (ran_word file word)
unfolding ran_word
word_lists file word =
    let i = bad_sign (signs_of file) word in
    subst (Lists _) (ap (λ (s : Said). when_given (judged file) s (judged file)) (refuse_then (ltb i (length word)) 10 i _) ∙ given_then (judged file) _)
    (lists_file _ (lists_else _ (lists_nothing _) (ltb i (length word)) 10 i (less i (length word))) file)

line_lists : (file line : List ℕ) → Lists (OfFile file (Else (signs_of file ≢ 47) 9 0 Nothing)) (ran_line file line)
unfolding ran_line
line_lists file line =
    let t = not (eqb (signs_of file) 47) in
    subst (Lists _) (ap (λ (s : Said). when_given (judged file) s (judged file)) (refuse_then t 9 0 _) ∙ given_then (judged file) _)
    (lists_file _ (lists_else _ (lists_nothing _) t 9 0 (other (signs_of file) 47)) file)
  where
    other : (a b : ℕ) → (not (eqb a b) ≡ true) ↔ (a ≢ b)
    other a b = ((λ e. eqb-false a b (not-true _ e)), (λ u. ap not (ne_eqb a b u)))

-- what is left once the telling word is known
spoken_refuses : (t : Telling) (before : List (List ℕ)) (work word : List ℕ) → Refuses (Else (length word < signs_told t) 12 (signs_told t) Nothing) before (work ∷ word ∷ []) (spoken t work word)
unfolding spoken refusing pick
spoken_refuses alike before work word = refuses_short _ (refuses_nothing [] (work ∷ word ∷ [])) false 0 ((λ e. absurd (true≢false (sym e))), (λ l. absurd (omega arith)))
spoken_refuses (apart w) before work word = refuses_short _ (refuses_nothing _ _) _ (length w) (less (length word) (length w))

demand_1 : (file : List ℕ) → Demand1 file
unfolding layers_leave layers_of tell_leaves tell_of start_leaves start_of run_leaves run_of ran_from shrink_leaves shrink_of
demand_1 file =
    let n = states_of file in
    let narrow : (work : List ℕ) → (ltb (length work) (16 * n) ≡ true) ↔ (length work < 16 * n) = λ work. less (length work) (16 * n) in
    record {
      judge = refused_exactly file;
      word = word_lists file;
      line = line_lists file;
      layers = λ work result. refuses_file _ (refuses_else _ (refuses_short _ (refuses_nothing _ _) _ _ (less (length result) n)) _ 11 _ (narrow work) (omega arith)) file;
      tell = λ p q work word. refuses_file _
          (refuses_else _
          (refuses_else _
          (refuses_else _ (spoken_refuses (telling (machine_of file) p q) _ _ _) _ 11 _ (narrow work) (omega arith)) _ 10 1 (most n q) (omega arith)) _ 10 0 (most n p) (omega arith))
          file;
      start = λ class pending. refuses_file _ (refuses_short _ (refuses_nothing _ _) _ _ (either _ _ (less (length class) n) (less (length pending) n))) file;
      run = λ budget class pending work.
          let ill = ill_formed n (signs_of file) (lists n class pending) in
          refuses_file _
          (refuses_else _
          (refuses_short _ (refuses_else _ (refuses_nothing _ _) _ 13 ill (less ill n) (omega arith)) _ _ (either _ _ (less (length class) n) (less (length pending) n)))
          _ 11 _ (narrow work) (omega arith))
          file;
      shrink = λ work out. refuses_file _ (refuses_else _ (refuses_short _ (refuses_nothing _ _) _ _ (less (length out) (length (shrunk file)))) _ 11 _ (narrow work) (omega arith)) file;
    }

-- an accepted file's machine is lawful, and its kinds are marks
module _ (file : List ℕ) (a : Accepted file) where
  right : Right file
  right = ((accepted_exactly file a.0).0 a.1).0

  inseparable : (p q : ℕ) → p < states_of file → q < states_of file → Same (machine_of file) p q ↔ Inseparable (machine_of file) p q
  inseparable = same_iff_inseparable (machine_of file) (machine_in_range file right).lawful (machine_in_range file right).marks

  demand_2 : Demand2 file
  unfolding layers_leave layers_of tell_leaves tell_of shrink_leaves shrink_of
  demand_2 =
      let lawful = (machine_in_range file right).lawful in
      record {
        one_class = λ p q k l. both (classes_same (machine_of file) lawful p q k l) (inseparable p q k l);
        layered = λ work result h g. file_given file _ _ a.1 ∙ refuses_not 11 _ _ _ (le-ltb (length work) (16 * states_of file) h) ∙ refuses_not 12 _ _ _ (le-ltb (length result) (states_of file) g);
        promised = promised file a;
        shrinks = λ work out h g. file_given file _ _ a.1 ∙ refuses_not 11 _ _ _ (le-ltb (length work) (16 * states_of file) h) ∙ refuses_not 12 _ _ _ (le-ltb (length out) (length (shrunk file)) g);
        told_alike = λ p q k l. both (telling_alike (machine_of file) lawful p q k l) (inseparable p q k l);
        told_apart = λ p q w k l e. (telling_apart (machine_of file) lawful p q w k l e).0;
        tells = λ p q work word k l h. file_given file _ _ a.1
            ∙ refuses_not 10 _ _ _ (lt-leb (states_of file) p k)
            ∙ refuses_not 10 _ _ _ (lt-leb (states_of file) q l)
            ∙ refuses_not 11 _ _ _ (le-ltb (length work) (16 * states_of file) h);
      }
    where
      both : {A B C : Type 0} → A ↔ B → B ↔ C → A ↔ C
      both f g = ((λ x. g.0 (f.0 x)), (λ z. f.1 (g.1 z)))

pub demands : (file : List ℕ) → Demands file
demands file = record {
  one = demand_1 file;
  two = demand_2 file;
  three = λ a budgets l room. calls_demand_3 file budgets l (right file a) room;
}
