use Rattle.std.proofs.Common.{◌≡◌, ◌≤◌, ◌*◌, take}
use Rattle.qm_sched.specs.Starts.{start_places}
use Rattle.qm_state.proofs.room.start_places.Given as goal

-- the places of the queues so far, of which each has at most 255
abbrev pub invariant-loop-queue : goal.invariant-loop-queue
invariant-loop-queue l = (l.places ≡ start_places (take l.queue-index l.queues)) × (l.places ≤ 255 * l.queue-index)
