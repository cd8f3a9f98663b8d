-- `telling::words::tell` meets its contract: each `return` is one of the ways out of the telling call.
use mathlib.Core.Path.{ap, ◌∙◌}
use mathlib.Core.List.{List, [], ◌∷◌}
use Prim.Native.Nat.{ℕ, ◌*◌}
use Rattle.std.proofs.lemmas.Result.{err_from_is_err_and}
use Rattle.lending.proofs.Memories.{cleared_same}
use Rattle.table.specs.Leaving.{left}
use Rattle.telling.specs.Calls.{told}
use Rattle.telling.proofs.Ways.{tell_refused, tell-first, tell_second, tell_narrow, lent_spoken}
use native.Mathlib.Omega.{arith}
use Rattle.telling.proofs.words.tell.Goals as goal

pub returns-in_err-table : goal.returns-in_err-table
returns-in_err-table c =
    let e = err_from_is_err_and c.from_residual.result c.from_residual.ensures.1 in
    rw (e.1, e.2) (tell_refused _ _ _ _ _ c.in_err-table.ensures)

pub returns-then-n-p : goal.returns-then-n-p
returns-then-n-p c = tell-first _ _ c.in_ok-table.ensures.good _ _ _ _ c.if-n-p.true

pub returns-then-n-q : goal.returns-then-n-q
returns-then-n-q c = tell_second _ _ c.in_ok-table.ensures.good _ _ _ _ c.if-n-p.false c.if-n-q.true

pub returns-then-work-room : goal.returns-then-work-room
returns-then-work-room c = tell_narrow _ _ c.in_ok-table.ensures.good _ _ _ _ c.if-n-p.false c.if-n-q.false c.if-work-room.true

pub returns : goal.returns
returns c =
    let t = c.in_ok-table.table in
    let a = c.args in
    let f = c.find_word-parting in
    let room = 16 * t.nexts.sizes.states in
    ap (λ (w : List ℕ). left (told f.result) (w ∷ f.new.word ∷ []))
    (c.clear.ensures ∙ cleared_same room f.new.work a.work.now f.ensures.beyond.0 (λ j l. f.ensures.beyond.1 j (omega arith)))
    ∙ f.ensures.said
    ∙ lent_spoken a.file.now t c.in_ok-table.ensures a.p a.q a.work.now a.word.now c.if-n-p.false c.if-n-q.false c.if-work-room.false
