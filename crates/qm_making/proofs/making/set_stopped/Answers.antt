use Rattle.std.proofs.Common.{◌∙◌, List, ap}
use Rattle.qm_kinds.specs.declared.queue.Queue.{Queue}
use Rattle.qm_making.proofs.Stopped.{stop_none, stop_one}
use Rattle.qm_making.proofs.making.set_stopped.Goals as goal

pub returns : goal.returns
returns c =
    c.set_queue_state.ensures
    ∙ ap (λ (qs : List Queue). record (c.args.parts.now) { queues = qs })
    (stop_one c.args.name.now c.args.how c.state_on_stop-state.result c.args.parts.now.queues c.in-Some.queue.now c.in-Some.ensures.in_order c.in-Some.ensures.found c.state_on_stop-state.ensures)

pub returns-in_default : goal.returns-in_default
returns-in_default c =
    ap (λ (qs : List Queue). record (c.args.parts.now) { queues = qs })
    (stop_none c.args.name.now c.args.how c.args.parts.now.queues c.in_default.ensures.found)
