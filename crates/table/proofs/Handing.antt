-- What the bodies handed out of an accepted file hold: next states that are states, and the machine of the file.
use mathlib.Core.Path.{◌≡◌, sym, ap₂, subst, ◌∙◌}
use mathlib.Core.List.{List}
use Prim.Native.Nat.{ℕ, ◌+◌, ◌*◌, ◌≤◌, ◌<◌}
use native.Mathlib.Nat.{le_of_eq}
use native.Mathlib.Omega.{arith}
use denote.Ref.{Bor}
use lib.ListN.{length}
use Rattle.counting.specs.Lists.{at}
use Rattle.counting.specs.Least.{pick}
use Rattle.automaton.specs.Machine.{Machine, Lawful}
use Rattle.table.specs.declared.answer.Sizes.{Sizes}
use Rattle.table.specs.Bodies.{part, body_in, PartOf}
use Rattle.table.specs.Encoding.{machine_in, machine_of, Held, Marked}
use Rattle.table.specs.Accepted.{Good}
use Rattle.table.specs.Tables.{machine, TableOf}
use Rattle.table.specs.declared.tables.Table.{Table}
use Rattle.table.proofs.Contents.{part_length}
use Rattle.table.proofs.Encodings.{machine_in_range}

-- the bodies of fields 2 and 3, by the sizes
abbrev pub marks_in : List ℕ → Sizes → List ℕ
marks_in file z = part file 12 z.states

abbrev pub nexts_in : List ℕ → Sizes → List ℕ
nexts_in file z = part file (12 + z.states + 3) (2 * (z.states * z.signs))

-- what `field_of` hands out for fields 2 and 3
pub marks_handed : {file r : Bor (List ℕ)} (z : Sizes) → PartOf file (body_in z.states z.signs 2).place (body_in z.states z.signs 2).length r → r.now ≡ marks_in file.now z
unfolding body_in pick
marks_handed z h = h.bytes

pub nexts_handed : {file r : Bor (List ℕ)} (z : Sizes) → PartOf file (body_in z.states z.signs 3).place (body_in z.states z.signs 3).length r → r.now ≡ nexts_in file.now z
unfolding body_in pick
nexts_handed z h = h.bytes

pub held_lawful : {n k start : ℕ} {nexts : List ℕ} (marks : List ℕ) → Held n k start nexts → Lawful (machine_in n k start marks nexts)
held_lawful marks h = record { some_state = h.range.some_state; some_sign = h.range.some_sign; start-in = h.start-in; next_in = h.next_in }

module _ (file : List ℕ) (z : Sizes) (g : Good file z) where
  pub machine_is : machine_in z.states z.signs z.start (marks_in file z) (nexts_in file z) ≡ machine_of file
  machine_is = λ i. machine_in (g.states i) (g.signs i) (g.start i) (part file 12 (g.states i)) (part file (12 + g.states i + 3) (2 * (g.states i * g.signs i)))

  pub held : Held z.states z.signs z.start (nexts_in file z)
  held =
      let r = machine_in_range file g.right in
      record {
        range = g.range;
        long = part_length file (12 + z.states + 3) (2 * (z.states * z.signs)) (rw (g.states, g.signs) (le_of_eq (sym g.right.ends)));
        start-in = rw (g.states, g.start) r.lawful.start-in;
        next_in = subst (λ (M : Machine). (q a : ℕ) → q < M.size → a < M.signs → M.next q a < M.size) (sym machine_is) r.lawful.next_in;
      }

  pub marks_long : length (marks_in file z) ≡ z.states
  marks_long = part_length file 12 z.states (rw g.states g.right.fields.marks.whole.bodied)

  pub marks_small : (q : ℕ) → q < z.states → at (marks_in file z) q < 2
  marks_small q l =
      let m : (machine_in z.states z.signs z.start (marks_in file z) (nexts_in file z)).kind q ≤ 1 = subst (λ (M : Machine). q < M.size → M.kind q ≤ 1) (sym machine_is) ((machine_in_range file g.right).marks q) l in
      omega arith

  pub marked : Marked (marks_in file z)
  marked = record { few = omega (arith, marks_long, g.range.states_most); small = λ q l. marks_small q (omega (arith, marks_long)) }

-- the machine of a file's table is the file's
pub table_machine : {file : List ℕ} {t : Table} → TableOf file t → machine t ≡ machine_of file
table_machine {file} {t} h =
    ap₂ (λ (marks nexts : List ℕ). machine_in t.nexts.sizes.states t.nexts.sizes.signs t.nexts.sizes.start marks nexts) h.marks h.nexts ∙ machine_is file t.nexts.sizes h.good
