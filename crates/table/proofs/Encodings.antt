-- The files that are accepted are exactly the encodings of machines in range, and each gives its machine back.
-- Rests on where a field is written, on rows of next states, and on what a right file is.
use mathlib.Core.Path.{◌≡◌, refl, sym, ap, ap₂, subst, subst₂, ◌∙◌}
use mathlib.Core.Logic.{◌↔◌}
use mathlib.Core.List.{List, [], ◌∷◌, ◌++◌, append_assoc, append-nil}
use Prim.Native.Nat.{ℕ, ◌+◌, ◌*◌, ◌/◌, ◌%◌, ◌<◌}
use native.Mathlib.Nat.{le_of_eq, div-add-mod', div-lt_iff_lt-mul, mod-lt}
use native.Mathlib.Omega.{arith}
use lib.Arith.{digits_lt}
use lib.ListN.{length, get_or, length-drop, drop_of_length-le}
use Rattle.counting.specs.Lists.{tab}
use Rattle.counting.proofs.Alls.{Every, every_cons, every_append, every_flat, every_tab}
use Rattle.counting.proofs.Tabs.{tab-length, tab-at, tab_cong, flat_cong}
use Rattle.automaton.specs.Machine.{Machine, Agree}
use Rattle.lending.specs.Pairs.{pair_at, pair}
use Rattle.lending.proofs.Halves.{pair-written, pair_bytes}
use Rattle.lending.proofs.Grids.{grid, grid_length, grid_at, grid_written}
use Rattle.table.specs.Answers.{gives}
use Rattle.table.specs.Judging.{judged, states_of, signs_of, start_of, end_of}
use Rattle.table.specs.Rows.{Whole, InRange, MarksRight, Right}
use Rattle.table.specs.Bodies.{part}
use Rattle.table.specs.Encoding.{machine_of, MachineInRange, field_of, encode, Bytes}
use Rattle.table.proofs.Pieces.{Written, written, writes}
use Rattle.table.proofs.Readers.{mark_read, next_read}
use Rattle.table.proofs.Refusals.{accepted_exactly}

module _ (M : Machine) where
  -- the three fields of an encoding
  first : Written (encode M) 0 1 6 (pair M.size ++ pair M.signs ++ pair M.start) (field_of 2 (tab M.size M.kind) ++ field_of 3 (grid M.size M.signs M.next))
  unfolding encode pair
  first = written (encode M) 0 1 6 _ _ refl (append_assoc (field_of 1 _) _ _)

  second : Written (encode M) 9 2 M.size (tab M.size M.kind) (field_of 3 (grid M.size M.signs M.next))
  second = written (encode M) 9 2 M.size _ _ (tab-length _ _) first.behind

  third : Written (encode M) (12 + M.size) 3 (2 * (M.size * M.signs)) (grid M.size M.signs M.next) []
  third = written (encode M) (12 + M.size) 3 _ _ _ (grid_length _ _ _) (second.behind ∙ sym (append-nil _))

  pub encoded_length : length (encode M) ≡ 12 + M.size + 3 + 2 * (M.size * M.signs)
  encoded_length =
      omega (arith, third.whole.bodied, length-drop (12 + M.size + 3 + 2 * (M.size * M.signs)) (encode M), ap length third.behind)

  sizes : (states_of (encode M) ≡ M.size) × (signs_of (encode M) ≡ M.signs) × (start_of (encode M) ≡ M.start)
  unfolding encode field_of pair pair_at
  sizes = (div-add-mod' M.size 256, div-add-mod' M.signs 256, div-add-mod' M.start 256)

  -- reading an encoding gives the machine back
  pub encoded_machine : MachineInRange M → Agree (machine_of (encode M)) M
  encoded_machine r = record {
    size = sizes.0;
    signs = sizes.1;
    start = sizes.2;
    next = λ q a h l.
        ap₂ (λ (n k : ℕ). pair_at (part (encode M) (12 + n + 3) (2 * (n * k))) (2 * (q * k + a))) sizes.0 sizes.1
        ∙ ap (λ (s : List ℕ). pair_at s (2 * (q * M.signs + a))) third.holds
        ∙ grid_at M.size M.signs M.next q a (omega (arith, sizes.0)) (omega (arith, sizes.1));
    kind = λ q h.
        ap (λ (n : ℕ). get_or (part (encode M) 12 n) q 0) sizes.0
        ∙ ap (λ (s : List ℕ). get_or s q 0) second.holds
        ∙ tab-at M.size M.kind 0 q (omega (arith, sizes.0));
  }

  module _ (r : MachineInRange M) where
    pub encoded_right : Right (encode M)
    encoded_right = record {
      fields = record {
        marks = record {
          sizes = record {
            whole = first.whole;
            range = subst₂ InRange (sym sizes.0) (sym sizes.1) r.range;
            start-in = omega (arith, sizes.0, sizes.2, r.lawful.start-in);
          };
          whole = subst (Whole (encode M) 9 2) (sym sizes.0) second.whole;
          marks = λ q h. omega (arith, mark_read (encode M) q h, same.kind q h, r.marks q (omega (arith, sizes.0)));
        };
        whole = subst₂ (λ (n k : ℕ). Whole (encode M) (12 + n) 3 (2 * (n * k))) (sym sizes.0) (sym sizes.1) third.whole;
        nexts = λ i h. subst (λ (j : ℕ). pair_at (encode M) (12 + n + 3 + 2 * j) < n) (div-add-mod' i k) (next_in (i / k) (i % k) ((div-lt_iff_lt-mul some).1 h) (mod-lt i some));
      };
      ends = encoded_length ∙ sym (ap₂ end_of sizes.0 (ap₂ ◌*◌ sizes.0 sizes.1));
    }
      where
        n : ℕ
        n = states_of (encode M)

        k : ℕ
        k = signs_of (encode M)

        same : Agree (machine_of (encode M)) M
        same = encoded_machine r

        some : 0 < k
        some = omega (arith, sizes.1, r.range.some_sign)

        next_in : (q a : ℕ) → q < n → a < k → pair_at (encode M) (12 + n + 3 + 2 * (q * k + a)) < n
        next_in q a h l = omega (arith, next_read (encode M) q a h l, same.next q a h l, r.lawful.next_in q a (omega (arith, sizes.0)) (omega (arith, sizes.1)), sizes.0)

    pub encoded_judged : judged (encode M) ≡ gives (M.size ∷ M.signs ∷ M.start ∷ [])
    encoded_judged = (accepted_exactly (encode M) _).1 (encoded_right, cc (sizes.0, sizes.1, sizes.2))

    field_bytes : (tag : ℕ) {body : List ℕ} → tag < 256 → length body < 65536 → Every (λ b. b < 256) 0 body → Every (λ b. b < 256) 0 (field_of tag body)
    unfolding field_of
    field_bytes tag t l h = every_cons t (every_append (pair_bytes _ l) h)

    first_bytes : Every (λ b. b < 256) 0 (field_of 1 (pair M.size ++ pair M.signs ++ pair M.start))
    unfolding pair
    first_bytes =
        let i : InRange M.size M.signs = r.range in
        let s : M.start < M.size = r.lawful.start-in in
        field_bytes 1 (omega arith) (omega arith)
        (every_append (every_append (pair_bytes M.size (omega arith)) (pair_bytes M.signs (omega arith))) (pair_bytes M.start (omega arith)))

    second_bytes : Every (λ b. b < 256) 0 (field_of 2 (tab M.size M.kind))
    second_bytes =
        field_bytes 2 (omega arith) (omega (arith, tab-length M.size M.kind, r.range.states_most)) (every_tab (omega arith) _ _ (λ q h. omega (arith, r.marks q h)))

    third_bytes : Every (λ b. b < 256) 0 (field_of 3 (grid M.size M.signs M.next))
    third_bytes =
        field_bytes 3 (omega arith) (omega (arith, grid_length M.size M.signs M.next, r.range.nexts_most))
        (every_flat (omega arith) _ _ (λ q h. every_flat (omega arith) _ _ (λ a l. pair_bytes (M.next q a) (omega (arith, r.lawful.next_in q a h l, r.range.states_most)))))

    -- an encoding is a list of bytes, and so a file
    pub encoded_bytes : Bytes (encode M)
    unfolding encode
    encoded_bytes = (every_append (every_append first_bytes second_bytes) third_bytes).at

-- machines that agree are written as one file
pub encode-agree : {M N : Machine} → Agree M N → encode M ≡ encode N
unfolding encode
encode-agree {M} {N} a =
    ap₂ (λ (f g : List ℕ). f ++ g)
    (ap₂ (λ (f g : List ℕ). field_of 1 f ++ field_of 2 g)
    (ap₂ ◌++◌ (ap₂ (λ (n k : ℕ). pair n ++ pair k) a.size a.signs) (ap pair a.start))
    (tab_cong M.size a.kind ∙ ap (λ (n : ℕ). tab n N.kind) a.size))
    (ap (field_of 3)
    (flat_cong M.size (λ q h. flat_cong M.signs (λ b l. ap pair (a.next q b h l)))
    ∙ ap₂ (λ (n k : ℕ). grid n k N.next) a.size a.signs))

-- the machine of a right file is one that a file can hold
pub machine_in_range : (file : List ℕ) → Right file → MachineInRange (machine_of file)
machine_in_range file r =
    let t : MarksRight file = r.fields.marks in
    let i = t.sizes.range in
    record {
      lawful = record {
        some_state = i.some_state;
        some_sign = i.some_sign;
        start-in = t.sizes.start-in;
        next_in = λ q a h l. rw (next_read file q a h l) (r.fields.nexts (q * signs_of file + a) (digits_lt h l));
      };
      range = i;
      marks = λ q h. rw (mark_read file q h) (t.marks q h);
    }

-- a right file of bytes is the encoding of its machine
pub right_encoded : (file : List ℕ) → Bytes file → Right file → file ≡ encode (machine_of file)
unfolding encode tab
right_encoded file bytes r =
    writes file 0 1 6 bytes r.fields.marks.sizes.whole
    ∙ ap₂ (λ (b s : List ℕ). field_of 1 b ++ s) (rw (pair-written file 3 (bytes _), pair-written file 5 (bytes _), pair-written file 7 (bytes _)))
    (writes file 9 2 n bytes r.fields.marks.whole
    ∙ ap₂ (λ (b s : List ℕ). field_of 2 b ++ s) (tab_cong n (λ q h. sym (mark_read file q h)))
    (writes file (12 + n) 3 (2 * (n * k)) bytes r.fields.whole
    ∙ ap₂ (λ (b s : List ℕ). field_of 3 b ++ s) (sym (grid_written n k file (12 + n + 3) bytes) ∙ flat_cong n (λ q h. flat_cong k (λ a l. ap pair (sym (next_read file q a h l))))) (drop_of_length-le file (le_of_eq r.ends))
    ∙ append-nil _))
    ∙ sym (append_assoc (field_of 1 _) (field_of 2 _) (field_of 3 _))
  where
    n : ℕ
    n = states_of file

    k : ℕ
    k = signs_of file

pub accepted_exactly_encodings : (file : List ℕ) → Bytes file → ((vs : List ℕ) × (judged file ≡ gives vs)) ↔ ((M : Machine) × MachineInRange M × (file ≡ encode M))
accepted_exactly_encodings file bytes = (from, to)
  where
    from : (vs : List ℕ) × (judged file ≡ gives vs) → (M : Machine) × MachineInRange M × (file ≡ encode M)
    from (vs, e) =
        let r : Right file = ((accepted_exactly file vs).0 e).0 in
        (machine_of file, machine_in_range file r, right_encoded file bytes r)

    to : (M : Machine) × MachineInRange M × (file ≡ encode M) → (vs : List ℕ) × (judged file ≡ gives vs)
    to (M, r, e) = (_, ap judged e ∙ encoded_judged M r)
