-- The marks stored at once are the marks stored one by one.
use Rattle.std.proofs.Common.{◌≡◌, ℕ, ◌+◌, ◌≤◌, List, ◌++◌, length, take, drop, arith, sym, ap, ap₂, ◌∙◌, append_assoc, drop-drop}
use Rattle.std.proofs.lemmas.List.Edits.{sets, sets-eq}
use borrow.Rule.Slice.PartMut.{put_mid}
use Rattle.selftest.proofs.files.write_marks.Goals as goal

-- a part written over is the part set number by number
put_sets : (a k : ℕ) (l xs ys : List ℕ) → ys ≡ xs → k ≡ length xs → a + length xs ≤ length l → put_mid a k l ys ≡ sets l a xs
put_sets a k l xs ys e f room =
    ap₂ (λ (zs rest : List ℕ). take a l ++ (zs ++ rest)) e (drop-drop k a l ∙ ap (λ (m : ℕ). drop (a + m) l) f)
    ∙ sym (append_assoc (take a l) xs (drop (a + length xs) l))
    ∙ sym (sets-eq xs l a room)

pub returns : goal.returns
returns c = put_sets 12 _ c.args.out.now c.args.marks.now _ c.copy_from_slice.ensures.after (omega arith) c.requires.room
