use Rattle.std.proofs.Common.{◌+◌, arith}
use Rattle.qm_glog.specs.Log.{bodies_of}
use Rattle.qm_store.proofs.Places.{place_more, place_within}
use Rattle.qm_store.proofs.reading.place_in.Goals as goal

pub overflow_add-place-in-loop-before : goal.overflow_add-place-in-loop-before
overflow_add-place-in-loop-before c =
    let bodies = bodies_of c.args.log.now in
    let k = place_more bodies c.loop-before.before c.record.result.now c.record.ensures in
    let w = place_within bodies (c.loop-before.before + 1) in
    omega (arith, k, w)

pub loop-before-preserved : goal.loop-before-preserved
loop-before-preserved c =
    let bodies = bodies_of c.args.log.now in
    let k = place_more bodies c.loop-before.before c.record.result.now c.record.ensures in
    omega (arith, k)
