use Rattle.std.proofs.Common.{◌∙◌, ◌+◌, refl, sym, arith}
use Rattle.qm_parts.proofs.ByByte.{level, ended}
use Rattle.qm_parts.proofs.names.order_of.Goals as goal

pub loop-place-preserved : goal.loop-place-preserved
loop-place-preserved c =
    let place = c.loop-place.place in
    record {
      same =
          c.loop-place.invariant.same
          ∙ level place (place + 1) c.args.text.now c.args.other.now 0 0 refl (omega (arith, c.loop-place-test.true, c.min-both.ensures)) (omega (arith, c.loop-place-test.true, c.min-both.ensures)) c.if-text-place.false;
      within = omega (arith, c.loop-place-test.true);
    }

pub returns : goal.returns
returns c =
    let place = c.loop-place.place in
    c.cmp-2.ensures
    ∙ sym (c.loop-place.invariant.same
    ∙ ended place c.args.text.now c.args.other.now (omega (arith, c.loop-place.invariant.within, c.min-both.ensures)) (omega (arith, c.loop-place.invariant.within, c.min-both.ensures))
    (λ less also. omega (arith, less, also, c.loop-place-test.false, c.min-both.ensures)))
