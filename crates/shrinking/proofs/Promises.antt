-- What document 01 promises of the shrunk file of an accepted file.
-- Rests on the quotient's theorems, on encodings, and on running in files whose machines are equivalent.
use mathlib.Core.Path.{◌≡◌, refl, sym, subst, ◌∙◌}
use mathlib.Core.List.{List}
use Prim.Native.Nat.{ℕ, ◌+◌, ◌*◌, ◌≤◌, ◌<◌}
use native.Mathlib.Nat.{mul_comm, mul-le-mul_left}
use native.Mathlib.Omega.{arith}
use lib.ListN.{length}
use Rattle.counting.specs.Lists.{at}
use Rattle.automaton.specs.Machine.{Machine, Lawful, Agree}
use Rattle.automaton.specs.Words.{Equivalent}
use Rattle.automaton.specs.Quotient.{rows, quotient}
use Rattle.automaton.proofs.Walks.{agree_equivalent}
use Rattle.automaton.proofs.Settling.{classes-in}
use Rattle.automaton.proofs.Rowlists.{rows_of}
use Rattle.automaton.proofs.Quotients.{quotient_lawful, quotient_equivalent}
use Rattle.automaton.proofs.Fewest.{equivalent_sym, equivalent_trans, quotient_fewest, agreed_again}
use Rattle.table.specs.Judging.{states_of, signs_of}
use Rattle.table.specs.Rows.{Right}
use Rattle.table.specs.Encoding.{machine_of, MachineInRange}
use Rattle.table.proofs.Refusals.{accepted_exactly}
use Rattle.table.proofs.Encodings.{encoded_machine, encoded_right, encoded_judged, encoded_length, encode-agree, machine_in_range}
use Rattle.running.specs.Running.{ran_line}
use Rattle.running.proofs.Equivalence.{words_equivalent, equivalent_words, equivalent_lines}
use Rattle.shrinking.specs.Shrunk.{shrunk, Accepted, SameWords, Promised}

-- the quotient has no more states than the machine
pub rows_most : (M : Machine) → Lawful M → length (rows M) ≤ M.size
rows_most M l = quotient_fewest M l M l (record { signs = refl; word = λ w h. refl })

-- a file can hold the quotient of a machine that a file can hold
pub quotient_in_range : (M : Machine) → MachineInRange M → MachineInRange (quotient M)
quotient_in_range M r = record {
  lawful = lawful;
  range = record {
    some_state = lawful.some_state;
    states_most = omega (arith, fewer, r.range.states_most);
    some_sign = r.range.some_sign;
    signs_most = r.range.signs_most;
    nexts_most = omega (arith, mul-le-mul_left M.signs fewer, mul_comm M.signs (length (rows M)), mul_comm M.signs M.size, r.range.nexts_most);
  };
  marks = λ i l.
      let (q, h, reached, e) = (rows_of M r.lawful).only i l in
      r.marks (at (rows M) i) (subst (λ (c : ℕ). c < M.size) e (classes-in M r.lawful q h));
}
  where
    lawful : Lawful (quotient M)
    lawful = quotient_lawful M r.lawful (rows M) (rows_of M r.lawful)

    fewer : length (rows M) ≤ M.size
    fewer = rows_most M r.lawful

-- an accepted file is right
pub accepted_right : {file : List ℕ} → Accepted file → Right file
accepted_right {file} (vs, e) = ((accepted_exactly file vs).0 e).0

module _ (file : List ℕ) (accepted : Accepted file) where
  abbrev M : Machine
  M = machine_of file

  abbrev Q : Machine
  Q = quotient M

  in-range : MachineInRange M
  in-range = machine_in_range file (accepted_right accepted)

  lawful : Lawful M
  lawful = in-range.lawful

  -- the shrunk file is right
  pub shrunk_right : Right (shrunk file)
  unfolding shrunk
  shrunk_right = encoded_right Q (quotient_in_range M in-range)

  -- its machine is the quotient
  pub shrunk_machine : Agree (machine_of (shrunk file)) Q
  unfolding shrunk
  shrunk_machine = encoded_machine Q (quotient_in_range M in-range)

  shrunk_equivalent : Equivalent (machine_of (shrunk file)) M
  shrunk_equivalent =
      equivalent_trans (agree_equivalent (machine_of (shrunk file)) Q (machine_in_range (shrunk file) shrunk_right).lawful shrunk_machine)
      (equivalent_sym (quotient_equivalent M lawful (rows M) (rows_of M lawful)))

  -- it is accepted
  pub shrunk_accepted : Accepted (shrunk file)
  unfolding shrunk
  shrunk_accepted = (_, encoded_judged Q (quotient_in_range M in-range))

  -- over the same signs
  pub shrunk_signs : signs_of (shrunk file) ≡ signs_of file
  shrunk_signs = shrunk_machine.signs

  -- it accepts exactly the words the given one did
  pub shrunk_words : SameWords (shrunk file) file
  shrunk_words = equivalent_words (shrunk file) file shrunk_right (accepted_right accepted) shrunk_equivalent

  -- and the lines
  pub shrunk_lines : (line : List ℕ) → ran_line (shrunk file) line ≡ ran_line file line
  shrunk_lines = equivalent_lines (shrunk file) file shrunk_right (accepted_right accepted) shrunk_equivalent

  -- no accepted file of the same k that does so has fewer rows
  pub shrunk_fewest : (other : List ℕ) → Accepted other → signs_of other ≡ signs_of file → SameWords other file → states_of (shrunk file) ≤ states_of other
  shrunk_fewest other a e same =
      let r : Right other = accepted_right a in
      omega (
        arith,
        shrunk_machine.size,
        quotient_fewest M lawful (machine_of other) (machine_in_range other r).lawful (words_equivalent file other (accepted_right accepted) r (sym e) (λ word. sym (same word))),
      )

  -- its length is 15 + rows + 2 × rows × k
  pub shrunk-length : length (shrunk file) ≡ 15 + states_of (shrunk file) + 2 * (states_of (shrunk file) * signs_of file)
  unfolding shrunk
  shrunk-length = rw shrunk_machine.size (omega (arith, encoded_length Q))

  -- it is never longer than the given one
  pub shrunk_no_longer : length (shrunk file) ≤ length file
  unfolding shrunk
  shrunk_no_longer =
      let fewer : length (rows M) ≤ M.size = rows_most M lawful in
      omega (
        arith,
        encoded_length Q,
        (accepted_right accepted).ends,
        mul-le-mul_left M.signs fewer,
        mul_comm M.signs (length (rows M)),
        mul_comm M.signs M.size,
      )

  -- shrinking it again gives the same bytes
  pub shrunk_again : shrunk (shrunk file) ≡ shrunk file
  unfolding shrunk
  shrunk_again =
      encode-agree (agreed_again M lawful (machine_of (shrunk file)) (machine_in_range (shrunk file) shrunk_right).lawful shrunk_machine) ∙ encode-agree shrunk_machine

pub promised : (file : List ℕ) → Accepted file → Promised file
promised file a = record {
  accepted = shrunk_accepted file a;
  signs = shrunk_signs file a;
  words = shrunk_words file a;
  lines = shrunk_lines file a;
  fewest = shrunk_fewest file a;
  long = shrunk-length file a;
  no_longer = shrunk_no_longer file a;
  again = shrunk_again file a;
}
