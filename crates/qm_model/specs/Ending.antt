-- What becomes of a job when its run ends.
-- OpenVMS System Services Reference Manual, $SNDJBC, on jobs that end, are aborted and are requeued; DCL Dictionary, STOP/QUEUE/REQUEUE.
-- This site's own: the statuses 44 and 1020.
use Rattle.std.specs.Prelude.{ℕ, true, if◌then◌else◌, List, Option, None, Some}
use Rattle.std.specs.Option.{option_map_or, option_and_then}
use Rattle.qm_kinds.specs.Sizes.{is_success}
use Rattle.qm_kinds.specs.declared.entry.Entry.{Entry}
use Rattle.qm_kinds.specs.declared.entry.EntryState.TheVariants.{Pending, Retained}
use Rattle.qm_kinds.specs.declared.entry.Fate.{Fate}
use Rattle.qm_kinds.specs.declared.entry.Fate.TheVariants.{Requeue, Finish, Remove}
use Rattle.qm_kinds.specs.declared.queue.Queue.{Queue}
use Rattle.qm_kinds.specs.declared.queue.QueueRetain.{QueueRetain}
use Rattle.qm_kinds.specs.declared.queue.QueueRetain.TheVariants.{Nothing}
use Rattle.qm_kinds.specs.declared.reply.Act.{Act}
use Rattle.qm_kinds.specs.declared.reply.Act.TheVariants.{RunCompleted, RunRetained, RunRequeued, RunRemoved}
use Rattle.qm_model.specs.Find.{queue_named}
use Rattle.qm_model.specs.JobStates.{runs_in}
use Rattle.qm_model.specs.Retaining.{is_retained, retained_until}

-- the status of a job that was aborted
abbrev pub aborted_status : ℕ
aborted_status = 44

-- the status of a job whose node was lost
abbrev pub node_lost_status : ℕ
node_lost_status = 1020

-- the retention that the queue has in which the entry runs
abbrev pub queue_retain : List Queue → Entry → QueueRetain
queue_retain queues e = option_map_or (λ q. q.retain) (option_and_then (λ name. queue_named name queues) (runs_in e.state)) Nothing

-- a job that ended with a status is kept, or there is no such entry any more
abbrev pub ended : List Queue → ℕ → ℕ → Entry → Option Entry
ended queues now status e =
    if is_retained e.retain (queue_retain queues e) (is_success status) now then Some (record e { state = Retained status (retained_until e.retain) }) else None

-- a job goes back into its home, with the last mark that was recorded
abbrev pub requeued : Entry → Entry
requeued e = record e { state = Pending; again = true }

-- what was decided for an aborting job
abbrev pub fated : List Queue → ℕ → Fate → Entry → Option Entry
fated queues now Requeue e = Some (requeued e)
fated queues now Finish e = ended queues now aborted_status e
fated queues now Remove e = None

-- what is replied to the end of a run
abbrev pub end_act : ℕ → ℕ → Option Entry → Act
end_act run status None = RunCompleted run status
end_act run status (Some retained) = RunRetained run status

-- what is replied to the end of a run that was cut short
abbrev pub fate_act : ℕ → Fate → Option Entry → Act
fate_act run Requeue outcome = RunRequeued run
fate_act run Finish outcome = end_act run aborted_status outcome
fate_act run Remove outcome = RunRemoved run
