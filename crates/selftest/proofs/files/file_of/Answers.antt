-- The file fills the array.
use Rattle.std.proofs.Common.{◌≡◌, ℕ, ◌+◌, ◌*◌, refl, sym, ◌∙◌, length, arith}
use Rattle.std.proofs.Math.ListN.{length-replicate}
use Rattle.table.proofs.Encodings.{encoded_length}
use Rattle.selftest.specs.Samples.{sample}
use Rattle.selftest.proofs.Filing.{whole_stored}
use Rattle.selftest.proofs.files.file_of.Goals as goal

full : (k n m size : ℕ) → m ≡ n * k → 12 + n + 3 + 2 * m ≡ size → 12 + n + 3 + 2 * (n * k) ≡ size
full k n m size e f = omega arith

pub returns : goal.returns
returns g c =
    let a = c.args in
    let long = encoded_length (sample a.signs a.marks.now a.nexts.now) ∙ full a.signs (length a.marks.now) (length a.nexts.now) _ c.requires.sizes.0 c.requires.long in
    whole_stored a.signs _ _ _ _ c.write_table.ensures.file _ _ refl refl (long ∙ sym (length-replicate g.row.N 0))
