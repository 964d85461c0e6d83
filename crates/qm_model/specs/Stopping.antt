-- Queues are stopped, and their jobs cut short.
-- DCL Dictionary, STOP/QUEUE, STOP/QUEUE/NEXT, STOP/QUEUE/RESET, STOP/QUEUE/ABORT and STOP/QUEUE/REQUEUE.
-- This site's own: STOP/QUEUE/ABORT of batch jobs, and that a job that may not restart isn't requeued.
use Rattle.std.specs.Prelude.{ℕ, ◌==◌, Bool, false, not, ◌&&◌, if◌then◌else◌, is_none, List, [], ◌∷◌, map, filter, find, Option, None, Some, bytes_eq}
use Rattle.std.specs.Option.{option_map_or}
use Rattle.qm_kinds.specs.declared.entry.Entry.{Entry}
use Rattle.qm_kinds.specs.declared.entry.EntryState.{EntryState}
use Rattle.qm_kinds.specs.declared.entry.EntryState.TheVariants.{Pending, Holding, Timed, Running, Aborting, Retained}
use Rattle.qm_kinds.specs.declared.entry.Fate.{Fate}
use Rattle.qm_kinds.specs.declared.entry.Fate.TheVariants.{Requeue, Finish}
use Rattle.qm_kinds.specs.declared.queue.Queue.{Queue}
use Rattle.qm_kinds.specs.declared.refusal.Refusal.{Refusal}
use Rattle.qm_kinds.specs.declared.refusal.Refusal.TheVariants.{NoSuchQueue, WrongKind, NotRunning, NotRestartable}
use Rattle.qm_kinds.specs.declared.reply.Act.TheVariants.{EntryAborting}
use Rattle.qm_kinds.specs.declared.request.StopMode.{StopMode}
use Rattle.qm_kinds.specs.declared.request.StopMode.TheVariants.{Pause, Next, Reset}
use Rattle.qm_kinds.specs.declared.system.System.{System}
use Rattle.qm_model.specs.Find.{queue_named}
use Rattle.qm_model.specs.Kinds.{is_generic}
use Rattle.qm_model.specs.Outcome.{Accepted, refused_where, first_refusal}
use Rattle.qm_model.specs.Standing.{with_entry, with_queue}
use Rattle.qm_model.specs.States.{state_on_stop}
use Rattle.qm_model.specs.Replying.{replied, replied_with_queue}

-- the entry runs in the queue, and isn't aborting
abbrev pub is_running_in : List ℕ → EntryState → Bool
is_running_in name Pending = false
is_running_in name Holding = false
is_running_in name (Timed at) = false
is_running_in name (Running queue node run) = bytes_eq queue name
is_running_in name (Aborting queue node run fate) = false
is_running_in name (Retained status until) = false

-- a run that is to be cut short keeps its place until its symbiont reports, or its node is lost
abbrev pub state_with_fate : Fate → EntryState → EntryState
state_with_fate new Pending = Pending
state_with_fate new Holding = Holding
state_with_fate new (Timed at) = Timed at
state_with_fate new (Running queue node run) = Aborting queue node run new
state_with_fate new (Aborting queue node run fate) = Aborting queue node run new
state_with_fate new (Retained status until) = Retained status until

-- the entry is to be cut short, with this fate
abbrev pub with_fate : Fate → Entry → Entry
with_fate new e = record e { state = state_with_fate new e.state }

-- a job that may restart goes back into its queue, and another one ends
abbrev pub reset_fate : Entry → Fate
reset_fate e = if e.restart then Requeue else Finish

-- a job that runs in the queue is to be cut short
abbrev pub reset_in : List ℕ → Entry → Entry
reset_in name e = if is_running_in name e.state then with_fate (reset_fate e) e else e

-- what becomes of the entries when a queue is stopped
abbrev pub entries_on_stop : StopMode → List ℕ → List Entry → List Entry
entries_on_stop Pause name entries = entries
entries_on_stop Next name entries = entries
entries_on_stop Reset name entries = map (reset_in name) entries

-- there is no queue to stop
abbrev pub stop_refusal : System → List ℕ → Option Refusal
stop_refusal s name = refused_where (is_none (queue_named name s.queues)) (NoSuchQueue name)

-- the queue after STOP/QUEUE
abbrev pub stopped_queue : StopMode → Queue → Queue
stopped_queue how q = record q { state = state_on_stop how q.state }

-- the queue is stopped, and its jobs are cut short by a reset
abbrev pub queue_stopped : System → List ℕ → StopMode → Accepted
queue_stopped s name how =
    replied_with_queue (record s { queues = with_queue name (stopped_queue how) s.queues; entries = entries_on_stop how name s.entries }) name

-- the entry, if there is just one
abbrev pub the_only_one : List Entry → Option Entry
the_only_one [] = None
the_only_one (e ∷ []) = Some e
the_only_one (e ∷ other ∷ others) = None

-- the job that is meant among those that run: the one of the number, or the only one
abbrev pub job_meant : Option ℕ → List Entry → Option Entry
job_meant None running = the_only_one running
job_meant (Some number) running = find (λ e. e.number == number) running

-- the job that is meant among those that run in the queue
abbrev pub job_to_abort : System → List ℕ → Option ℕ → Option Entry
job_to_abort s queue number = job_meant number (filter (λ e. is_running_in queue e.state) s.entries)

-- why no job can be cut short so
abbrev pub abort_refusal : System → List ℕ → Option ℕ → Bool → Option Refusal
abort_refusal s queue number requeue = first_refusal
    (refused_where (is_none (queue_named queue s.queues)) (NoSuchQueue queue)
    ∷ refused_where (option_map_or (λ q. is_generic q.kind) (queue_named queue s.queues) false) WrongKind
    ∷ refused_where (is_none (job_to_abort s queue number)) NotRunning
    ∷ refused_where (requeue && option_map_or (λ e. not e.restart) (job_to_abort s queue number) false) NotRestartable
    ∷ [])

-- the entry of the number is to be cut short, with this fate
abbrev pub entry_aborting : System → Fate → ℕ → Accepted
entry_aborting s fate number = replied (record s { entries = with_entry number (λ e. Some (with_fate fate e)) s.entries }) (EntryAborting number)

-- the job that is meant is to be cut short, and goes back into its queue or ends
abbrev pub job_aborted : System → List ℕ → Option ℕ → Bool → Accepted
job_aborted s queue number requeue =
    entry_aborting s (if requeue then Requeue else Finish) (option_map_or (λ e. e.number) (job_to_abort s queue number) 0)
