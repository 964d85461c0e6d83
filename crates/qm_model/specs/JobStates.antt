-- States of jobs.
-- OpenVMS System Manager's Manual, Setting Up and Maintaining Queues, on the status of jobs; DCL Dictionary, SHOW ENTRY.
-- This site's own: an aborting job keeps its run until its symbiont reports, or its node is lost.
use Rattle.std.specs.Prelude.{ℕ, Bool, true, false, is_some, List, Option, None, Some}
use Rattle.qm_kinds.specs.declared.entry.EntryState.{EntryState}
use Rattle.qm_kinds.specs.declared.entry.EntryState.TheVariants.{Pending, Holding, Timed, Running, Aborting, Retained}
use Rattle.qm_kinds.specs.declared.entry.Fate.{Fate}

-- the job waits for nothing but its start
abbrev pub is_pending : EntryState → Bool
is_pending Pending = true
is_pending Holding = false
is_pending (Timed at) = false
is_pending (Running queue node run) = false
is_pending (Aborting queue node run fate) = false
is_pending (Retained status until) = false

-- the job waits: for its start, for its release or for its moment
abbrev pub is_waiting : EntryState → Bool
is_waiting Pending = true
is_waiting Holding = true
is_waiting (Timed at) = true
is_waiting (Running queue node run) = false
is_waiting (Aborting queue node run fate) = false
is_waiting (Retained status until) = false

-- the number of the run, if the entry has one
abbrev pub run_of : EntryState → Option ℕ
run_of Pending = None
run_of Holding = None
run_of (Timed at) = None
run_of (Running queue node run) = Some run
run_of (Aborting queue node run fate) = Some run
run_of (Retained status until) = None

-- the queue where the entry has its run, if it has one
abbrev pub runs_in : EntryState → Option (List ℕ)
runs_in Pending = None
runs_in Holding = None
runs_in (Timed at) = None
runs_in (Running queue node run) = Some queue
runs_in (Aborting queue node run fate) = Some queue
runs_in (Retained status until) = None

-- the node where the entry has its run, if it has one
abbrev pub runs_on : EntryState → Option (List ℕ)
runs_on Pending = None
runs_on Holding = None
runs_on (Timed at) = None
runs_on (Running queue node run) = Some node
runs_on (Aborting queue node run fate) = Some node
runs_on (Retained status until) = None

-- what becomes of the entry when its run ends, where that was decided
abbrev pub fate_of : EntryState → Option Fate
fate_of Pending = None
fate_of Holding = None
fate_of (Timed at) = None
fate_of (Running queue node run) = None
fate_of (Aborting queue node run fate) = Some fate
fate_of (Retained status until) = None

-- the run is to be cut short
abbrev pub is_aborting : EntryState → Bool
is_aborting state = is_some (fate_of state)
