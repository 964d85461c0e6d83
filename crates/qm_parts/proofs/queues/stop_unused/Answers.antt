use Rattle.std.proofs.Common.{◌<◌, ◌∙◌, List, length, refl, ap, arith}
use Rattle.qm_kinds.specs.declared.queue.Queue.{Queue}
use Rattle.qm_tables.proofs.QueueNames.{kept_as}
use Rattle.qm_parts.proofs.Stops.{kept_more, mixed_all}
use Rattle.qm_parts.proofs.queues.stop_unused.Goals as goal

pub loop-place-preserved : goal.loop-place-preserved
loop-place-preserved c =
    let within : c.loop-place.place < length c.args.queues.now.queues = omega (arith, c.loop-place-test.true, ap length c.as_slice-place-end.ensures.queues) in
    kept_more c.args.runs.now.runs c.loop-place.place c.args.queues.now.queues c.loop-place.queues c.stop_if_unused.new.queues c.args.queues.now.spare within c.loop-place.invariant c.stop_if_unused.ensures

pub loop-place-init : goal.loop-place-init
loop-place-init c = refl

pub returns : goal.returns
returns c =
    c.loop-place.invariant
    ∙ ap (λ (qs : List Queue). kept_as qs c.args.queues.now.spare)
    (mixed_all c.args.runs.now.runs c.loop-place.place c.args.queues.now.queues (omega (arith, c.loop-place-test.false, ap length c.as_slice-place-end.ensures.queues)))
