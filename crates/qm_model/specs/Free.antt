-- When an execution queue has a place for one more run.
-- DCL Dictionary, INITIALIZE/QUEUE, /JOB_LIMIT.
-- This site's own: limits of 1 to 255, and the place that stays taken until a symbiont reports.
use Rattle.std.specs.Prelude.{ℕ, nat_lt, Bool, List, count_by, if◌then◌else◌}
use Rattle.qm_kinds.specs.declared.queue.Queue.{Queue}
use Rattle.qm_kinds.specs.declared.entry.Entry.{Entry}
use Rattle.qm_kinds.specs.declared.system.System.{System}
use Rattle.qm_model.specs.Standing.{occupies}
use Rattle.qm_model.specs.Kinds.{is_print, job_kind}

-- how many runs a queue has; one that is aborting keeps its place until its symbiont reports, or its node is lost
abbrev pub places_taken : List Entry → List ℕ → ℕ
places_taken entries queue = count_by (occupies queue) entries

-- how many jobs may run in the queue at once: one in a queue for print jobs, and in another one its limit
abbrev pub places : Queue → ℕ
places q = if is_print (job_kind q.kind) then 1 else q.limit

-- fewer jobs have their run in the queue than may run there at once
abbrev pub is_free : System → Queue → Bool
is_free s q = nat_lt (places_taken s.entries q.name) (places q)
