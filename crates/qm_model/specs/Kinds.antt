-- Kinds of jobs and of queues.
-- OpenVMS System Manager's Manual, Setting Up and Maintaining Queues, on batch and output queues, execution queues and generic queues; DCL Dictionary, INITIALIZE/QUEUE, /BATCH and /GENERIC.
use Rattle.std.specs.Prelude.{Bool, true, false, not, ◌&&◌, if◌then◌else◌}
use Rattle.qm_kinds.specs.declared.entry.JobKind.{JobKind}
use Rattle.qm_kinds.specs.declared.queue.Queue.{Queue}
use Rattle.qm_kinds.specs.declared.queue.QueueKind.{QueueKind}
use Rattle.qm_kinds.specs.declared.queue.QueueKind.TheVariants.{Batch, Print, GenericBatch, GenericPrint}
use Rattle.qm_kinds.specs.declared.entry.JobKind.TheVariants as job

-- a print job
abbrev pub is_print : JobKind → Bool
is_print job.Batch = false
is_print job.Print = true

-- both are batch jobs, or both are print jobs
abbrev pub is_same_kind : JobKind → JobKind → Bool
is_same_kind job.Batch job.Batch = true
is_same_kind job.Batch job.Print = false
is_same_kind job.Print job.Batch = false
is_same_kind job.Print job.Print = true

-- execution queues stand on a node, generic ones don't
abbrev pub is_generic : QueueKind → Bool
is_generic Batch = false
is_generic Print = false
is_generic GenericBatch = true
is_generic GenericPrint = true

-- an execution queue for batch jobs
abbrev pub is_batch_queue : QueueKind → Bool
is_batch_queue Batch = true
is_batch_queue Print = false
is_batch_queue GenericBatch = false
is_batch_queue GenericPrint = false

-- an execution queue for print jobs
abbrev pub is_print_queue : QueueKind → Bool
is_print_queue Batch = false
is_print_queue Print = true
is_print_queue GenericBatch = false
is_print_queue GenericPrint = false

-- the kind of job that a queue takes
abbrev pub job_kind : QueueKind → JobKind
job_kind Batch = job.Batch
job_kind Print = job.Print
job_kind GenericBatch = job.Batch
job_kind GenericPrint = job.Print

-- the kind of execution queue that runs jobs of a kind
abbrev pub execution_kind : JobKind → QueueKind
execution_kind job.Batch = Batch
execution_kind job.Print = Print

-- both are for the same kind of job, and both execution queues or both generic
abbrev pub is_same_queue_kind : QueueKind → QueueKind → Bool
is_same_queue_kind a b = is_same_kind (job_kind a) (job_kind b) && (if is_generic a then is_generic b else not (is_generic b))

-- the queue takes jobs of the other kind
abbrev pub is_other_kind : JobKind → Queue → Bool
is_other_kind kind q = not (is_same_kind kind (job_kind q.kind))
