-- The states of a queue, and which command leads to which.
-- DCL Dictionary, START/QUEUE, STOP/QUEUE, STOP/QUEUE/NEXT and STOP/QUEUE/RESET.
-- This site's own: the four states, their table, and START/QUEUE of a stopping queue.
use Rattle.std.specs.Prelude.{Bool, true, false, if◌then◌else◌, List, map}
use Rattle.std.specs.List.{list_any}
use Rattle.qm_kinds.specs.declared.entry.Entry.{Entry}
use Rattle.qm_kinds.specs.declared.queue.Queue.{Queue}
use Rattle.qm_kinds.specs.declared.queue.QueueState.{QueueState}
use Rattle.qm_kinds.specs.declared.queue.QueueState.TheVariants.{Stopped, Started, Paused, Stopping}
use Rattle.qm_kinds.specs.declared.request.StopMode.{StopMode}
use Rattle.qm_kinds.specs.declared.request.StopMode.TheVariants.{Pause, Next, Reset}
use Rattle.qm_kinds.specs.declared.system.System.{System}
use Rattle.qm_model.specs.Standing.{occupies}

-- START/QUEUE
abbrev pub state_on_start : QueueState → QueueState
state_on_start state = Started

-- STOP/QUEUE, STOP/QUEUE/NEXT and STOP/QUEUE/RESET
abbrev pub state_on_stop : StopMode → QueueState → QueueState
state_on_stop Pause Stopped = Stopped
state_on_stop Pause Started = Paused
state_on_stop Pause Paused = Paused
state_on_stop Pause Stopping = Stopping
state_on_stop Next Stopped = Stopped
state_on_stop Next Started = Stopping
state_on_stop Next Paused = Stopping
state_on_stop Next Stopping = Stopping
state_on_stop Reset Stopped = Stopped
state_on_stop Reset Started = Stopped
state_on_stop Reset Paused = Stopped
state_on_stop Reset Stopping = Stopped

-- the queue is stopped
abbrev pub is_stopped : QueueState → Bool
is_stopped Stopped = true
is_stopped Started = false
is_stopped Paused = false
is_stopped Stopping = false

-- a queue that is stopping is stopped once it has no run
abbrev pub state_when_idle : Bool → QueueState → QueueState
state_when_idle has_run Stopped = Stopped
state_when_idle has_run Started = Started
state_when_idle has_run Paused = Paused
state_when_idle has_run Stopping = if has_run then Stopping else Stopped

-- the queue after a request: stopped if it was stopping and has no run
abbrev pub when_idle : List Entry → Queue → Queue
when_idle entries q = record q { state = state_when_idle (list_any (occupies q.name) entries) q.state }

-- each queue after a request
abbrev pub stopped_when_idle : System → System
stopped_when_idle s = record s { queues = map (when_idle s.entries) s.queues }
