use Rattle.std.proofs.Common.{sym, arith}
use Rattle.qm_values.specs.declared.codes.TheConstants.{CHARACTERISTIC, TARGET}
use Rattle.qm_sjc.specs.Judging.{first_fault}
use Rattle.qm_sjc.proofs.JudgingLemmas.{place_more, place_fits, count_more, fault_more}
use Rattle.qm_sjc.proofs.judging.first_fault.Goals as goal

pub overflow_add-place-in-loop-i : goal.overflow_add-place-in-loop-i
overflow_add-place-in-loop-i c =
    let fits = place_fits c.args.items.now c.loop-i.i c.index-items-i.result c.loop-i-test.true (sym c.index-items-i.is) c.loop-i.place c.len.result c.loop-i.invariant.1 c.len.ensures c.requires in
    omega (arith, fits)

pub overflow_add-place : goal.overflow_add-place
overflow_add-place c =
    let fits = place_fits c.args.items.now c.loop-i.i c.index-items-i.result c.loop-i-test.true (sym c.index-items-i.is) c.loop-i.place c.len.result c.loop-i.invariant.1 c.len.ensures c.requires in
    omega (arith, fits)

pub loop-i-preserved : goal.loop-i-preserved
loop-i-preserved c = (
  fault_more c.args.items.now c.loop-i.i c.index-items-i.result c.loop-i-test.true (sym c.index-items-i.is) c.args.function (first_fault c.args.function c.args.items.now)
      c.in-None.ensures c.loop-i.invariant.0,
  place_more c.args.items.now c.loop-i.i c.index-items-i.result c.loop-i-test.true (sym c.index-items-i.is) c.loop-i.place c.len.result c.loop-i.invariant.1 c.len.ensures,
  count_more c.args.items.now c.loop-i.i c.index-items-i.result c.loop-i-test.true (sym c.index-items-i.is) CHARACTERISTIC c.loop-i.repeats.characteristics
      c.counted-repeats.result.characteristics c.loop-i.invariant.2 c.counted-repeats.ensures.characteristics,
  count_more c.args.items.now c.loop-i.i c.index-items-i.result c.loop-i-test.true (sym c.index-items-i.is) TARGET c.loop-i.repeats.targets
      c.counted-repeats.result.targets c.loop-i.invariant.3 c.counted-repeats.ensures.targets,
)
