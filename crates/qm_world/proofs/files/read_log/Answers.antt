use Rattle.qm_world.proofs.Logs.{one_more_spelled, read_more}
use Rattle.qm_world.proofs.files.read_log.Goals as goal

pub loop-index-preserved : goal.loop-index-preserved
loop-index-preserved g c =
    let log = c.loop-index.log.items in
    record {
      spelled = rw c.in_ok-push.ensures.items (one_more_spelled log c.in_ok-read.field-0 c.loop-index.invariant.spelled c.in_ok-read.ensures.fits);
      texts = rw c.in_ok-push.ensures.items (read_more (g.B.Bodies.bodies c.args.file.now) log c.loop-index.index c.body.result.now c.in_ok-read.field-0 c.body.ensures c.in_ok-read.ensures c.loop-index.invariant.texts);
    }
