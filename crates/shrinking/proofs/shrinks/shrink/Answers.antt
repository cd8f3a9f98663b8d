-- `shrinking::shrinks::shrink` meets its contract: each `return` is one of the ways out of the shrinking call.
use mathlib.Core.Path.{ap, ap₂, ◌∙◌}
use mathlib.Core.List.{List, [], ◌∷◌}
use Prim.Native.Nat.{ℕ}
use Rattle.std.proofs.lemmas.Result.{err_from_is_err_and}
use Rattle.table.specs.Answers.{gives, refuses}
use Rattle.table.specs.Leaving.{left}
use Rattle.table.specs.Tables.{machine}
use Rattle.shrinking.specs.Written.{file_length}
use Rattle.shrinking.proofs.ShrinkWays.{lent_writable, shrink_refused, shrink_narrow, lent_short, lent_made}
use native.Mathlib.Omega.{arith}
use Rattle.shrinking.proofs.shrinks.shrink.Goals as goal

pub returns-in_err-table : goal.returns-in_err-table
returns-in_err-table c =
    let e = err_from_is_err_and c.from_residual.result c.from_residual.ensures.1 in
    rw (e.1, e.2) (shrink_refused _ _ _ c.in_err-table.ensures)

pub returns-then-work-room : goal.returns-then-work-room
returns-then-work-room c = shrink_narrow _ _ c.in_ok-table.ensures.good _ _ c.if-work-room.true

pub returns-then-out-length : goal.returns-then-out-length
returns-then-out-length c =
    let t = c.in_ok-table.table in
    let a = c.args in
    let r = c.find_rows-rows.result in
    ap (λ (v : List ℕ). left (refuses 12 (file_length r.count t.nexts.sizes.signs)) (v ∷ a.out.now ∷ [])) c.clear.ensures
    ∙ lent_short a.file.now t c.in_ok-table.ensures a.work.now a.out.now (omega (arith, c.if-work-room.false)) c.find_rows-rows.new.work r.count r.takes c.find_rows-rows.ensures c.if-out-length.true

pub write_file-requires-clause-writable : goal.write_file-requires-clause-writable
write_file-requires-clause-writable c =
    let f = c.find_rows-rows in
    lent_writable (machine c.in_ok-table.table) c.args.work.now f.new.work f.result.count f.result.takes f.ensures

pub returns : goal.returns
returns c =
    let t = c.in_ok-table.table in
    let a = c.args in
    let r = c.find_rows-rows.result in
    ap₂ (λ (v o : List ℕ). left (gives (r.count ∷ file_length r.count t.nexts.sizes.signs ∷ [])) (v ∷ o ∷ [])) c.clear-2.ensures c.write_file.ensures
    ∙ lent_made a.file.now t c.in_ok-table.ensures a.work.now a.out.now (omega (arith, c.if-work-room.false)) c.find_rows-rows.new.work r.count r.takes c.find_rows-rows.ensures (omega (arith, c.if-out-length.false))
