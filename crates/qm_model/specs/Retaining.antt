-- Whether a job is kept in its queue's listing after its end.
-- OpenVMS System Manager's Manual, Setting Up and Maintaining Queues, on job retention; DCL Dictionary, PRINT and INITIALIZE/QUEUE, /RETAIN.
-- This site's own: the table of retention.
use Rattle.std.specs.Prelude.{ℕ, nat_lt, Bool, true, false, not, Option, None, Some}
use Rattle.qm_kinds.specs.declared.entry.JobRetain.{JobRetain}
use Rattle.qm_kinds.specs.declared.queue.QueueRetain.{QueueRetain}
use Rattle.qm_kinds.specs.declared.queue.QueueRetain.TheVariants.{Nothing, Failed, All}
use Rattle.qm_kinds.specs.declared.entry.JobRetain.TheVariants as job

-- the job's own setting, the setting of the queue where it ran, whether it went well, and the moment
abbrev pub is_retained : JobRetain → QueueRetain → Bool → ℕ → Bool
is_retained job.Always queue success now = true
is_retained job.Failed queue success now = not success
is_retained (job.Until at) queue success now = nat_lt now at
is_retained job.Default All success now = true
is_retained job.Default Failed success now = not success
is_retained job.Default Nothing success now = false

-- the moment until which it is kept, if it says one
abbrev pub retained_until : JobRetain → Option ℕ
retained_until job.Default = None
retained_until job.Always = None
retained_until job.Failed = None
retained_until (job.Until at) = Some at
