-- `splitting::hits::settle_hits` meets its contract.
use Prim.Native.Nat.{ℕ, ◌<◌}
use mathlib.Core.Path.{◌≡◌, sym, ap, ap₂, ◌∙◌}
use mathlib.Core.Bool.{not}
use lib.ListN.{length}
use native.Mathlib.Omega.{arith}
use borrow.Author.Tests.{eq-eqb}
use lib.Dec.{eqb}
use Rattle.splitting.proofs.Unleading.{cut_in, cut_none, cut_some, unleading_more}
use Rattle.splitting.proofs.hits.settle_hits.Goals as goal
use Rattle.splitting.proofs.hits.settle_hits.Goals.{then-count-ne0, else-count-ne0}

pub loop-j-preserved : goal.loop-j-preserved
loop-j-preserved c =
    let a = c.args in
    let l = c.loop-j in
    let k = c.number_at-c.result in
    let e = c.number_at-count.ensures.value in
    let within : k < length a.sizes.now = omega (arith, c.number_at-c.ensures.value, c.requires.within l.j c.loop-j-test.true) in
    let cut_is : c.if-count-ne0.cut ≡ cut_in a.sizes.now l.leds k = elim c.if-count-ne0.branch [
      | then-count-ne0 w ↦ w.cut-is ∙ ap₂ (λ (x y : ℕ). not (eqb x y)) e w.number_at.ensures.value ∙ sym (cut_some a.sizes.now l.leds k (λ z. w.if-count-ne0.true (e ∙ z)))
      | else-count-ne0 w ↦ w.cut-is ∙ ap not (eq-eqb _ 0 w.if-count-ne0.false) ∙ sym (cut_none a.sizes.now l.leds k (sym e ∙ w.if-count-ne0.false))
    ] in
    unleading_more a.sizes.now a.touched.now a.leds.now l.j k l.leds l.split c.if-count-ne0.cut within (omega (arith, c.requires.room.0, l.invariant.long)) c.number_at-c.ensures.value cut_is l.invariant
