use Rattle.std.proofs.Common.{ap, arith}
use Rattle.qm_sched.specs.Starts.{start_places}
use Rattle.qm_image.specs.Image.{system_of}
use Rattle.qm_state.proofs.Starts.{places_bound, entries_bound}
use Rattle.qm_state.proofs.room.most_starts.Goals as goal

pub returns-in_default : goal.returns-in_default
unfolding system_of
returns-in_default c now node =
    let few = places_bound c.args.change.now c.in_default.not-PutQueue c.in_default.not-SetQueue c.starts_are_few.ensures.places now node (system_of c.args.image.now) in
    omega (arith, few, c.start_places.ensures, ap start_places c.queues.ensures.queues)

pub returns-in-PutQueue : goal.returns-in-PutQueue
unfolding system_of
returns-in-PutQueue c now node =
    let few = entries_bound c.args.change.now c.in-PutQueue.is c.starts_are_few.ensures.entries now node (system_of c.args.image.now) in
    omega (arith, few, c.entry_count.ensures)
