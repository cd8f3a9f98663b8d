-- `layering::rounds::seek_name` meets its contract: what the state's own name and each name of its bucket say, by the theory of buckets.
use mathlib.Core.Path.{◌≡◌, sym, ap, subst, ◌∙◌}
use mathlib.Core.Logic.{◌≢◌}
use mathlib.Core.Bool.{false}
use native.Mathlib.Omega.{arith}
use Rattle.counting.specs.Lists.{at}
use Rattle.table.specs.Tables.{unmarked}
use Rattle.layering.specs.Work.{numbers_of, same_nexts}
use Rattle.layering.proofs.Buckets.{Passed, bucket_below, own_found, this_found, passed_start, passed_found, passed_other, passed_unlike, link_falls, passed_last}
use Rattle.layering.proofs.rounds.seek_name.Goals as goal
use Rattle.layering.proofs.rounds.seek_name.Goals.{else-number_at-own-via-then-number_at-own+else-same_nexts-2, else-number_at-own-via-else-number_at-own}

pub returns-then-own-q : goal.returns-then-own-q
returns-then-own-q c =
    let e = sym c.number_at-own.ensures.value ∙ c.if-own-q.true in
    (omega arith, own_found (unmarked c.args.nexts.now) c.args.rooms.now.names.now c.args.q c.requires.state c.requires.named e, λ _. e)

pub returns-then-same_nexts : goal.returns-then-same_nexts
returns-then-same_nexts c =
    let M = unmarked c.args.nexts.now in
    let names = c.args.rooms.now.names.now in
    let q = c.args.q in
    let e = c.number_at-own.ensures.value in
    let f = ap (same_nexts M names q) (sym e) ∙ sym c.same_nexts.ensures ∙ c.if-same_nexts.true in (
      omega (arith, e, c.requires.named.low q c.requires.state),
      this_found M names q c.requires.state c.requires.named f ∙ sym e,
      λ h. sym e ∙ h,
    )

pub number_at-r-requires : goal.number_at-r-requires
number_at-r-requires c =
    omega (arith, c.bucket_of-bucket.ensures, bucket_below (unmarked c.args.nexts.now) c.args.rooms.now.names.now c.args.q c.args.q c.requires.state)

pub loop-r-init : goal.loop-r-init
loop-r-init c =
    let w = numbers_of c.args.rooms.now in
    passed_start (unmarked c.args.nexts.now) w c.args.q c.requires.state c.requires.named c.requires.done _ (c.number_at-r.ensures.value ∙ ap (at w.heads) c.bucket_of-bucket.ensures)

pub returns-then-same_nexts-2 : goal.returns-then-same_nexts-2
returns-then-same_nexts-2 c =
    let e = sym c.number_at.ensures.value ∙ c.if-number_at-own.true ∙ c.number_at-own.ensures.value in
    let f = sym c.same_nexts-then-number_at-own.ensures ∙ c.if-same_nexts-2.true in
    let (k, g) = passed_found (unmarked c.args.nexts.now) (numbers_of c.args.rooms.now) c.args.q c.requires.state c.requires.named c.requires.done c.loop-r.r c.loop-r.invariant c.loop-r-test.true e f in
    (omega (arith, k), g, λ h. absurd (omega (arith, k, h)))

pub loop-r-smaller : goal.loop-r-smaller
loop-r-smaller c =
    link_falls (unmarked c.args.nexts.now) (numbers_of c.args.rooms.now) c.args.q c.requires.state c.requires.named c.requires.done c.loop-r.r _ c.loop-r.invariant c.loop-r-test.true c.number_at-r-in-loop-r.ensures.value

pub loop-r-preserved : goal.loop-r-preserved
loop-r-preserved c =
    let M = unmarked c.args.nexts.now in
    let w = numbers_of c.args.rooms.now in
    let l = c.loop-r in
    let s = c.number_at-r-in-loop-r in
    elim c.else-number_at-own.branch [
      | else-number_at-own-via-then-number_at-own+else-same_nexts-2 b ↦
          passed_unlike M w c.args.q c.requires.state c.requires.named c.requires.done l.r s.result l.invariant c.loop-r-test.true
          (sym b.same_nexts-then-number_at-own.ensures ∙ b.if-same_nexts-2.false) s.ensures.value
      | else-number_at-own-via-else-number_at-own b ↦
          passed_other M w c.args.q c.requires.state c.requires.named c.requires.done l.r s.result l.invariant c.loop-r-test.true
          (λ e. b.if-number_at-own.false (c.number_at.ensures.value ∙ e ∙ sym c.number_at-own.ensures.value)) s.ensures.value
    ]

pub returns : goal.returns
returns c =
    let M = unmarked c.args.nexts.now in
    let w = numbers_of c.args.rooms.now in
    let q = c.args.q in
    let e = c.number_at-own.ensures.value in
    let v : at w.names q ≢ q = λ h. c.if-own-q.false (e ∙ h) in
    let f : same_nexts M w.names q (at w.names q) ≡ false = ap (same_nexts M w.names q) (sym e) ∙ sym c.same_nexts.ensures ∙ c.if-same_nexts.false in (
      c.bucket_of-bucket.ensures,
      omega (arith, c.bucket_of-bucket.ensures, bucket_below M w.names q q c.requires.state),
      v,
      passed_last M w q c.requires.state c.requires.named c.requires.done (subst (Passed M w q) c.loop-r-test.false c.loop-r.invariant) v f,
    )
