-- The rows of the tables of queue states and of retention, as the laws compare them.
-- DCL Dictionary, START/QUEUE and STOP/QUEUE; PRINT and INITIALIZE/QUEUE, /RETAIN.
-- This site's own: the tables.
use Rattle.std.specs.Prelude.{◌≡◌, ℕ, Bool, true, false, List, [], ◌∷◌, map}
use Rattle.qm_kinds.specs.declared.entry.JobRetain.{JobRetain}
use Rattle.qm_kinds.specs.declared.queue.QueueRetain.{QueueRetain}
use Rattle.qm_kinds.specs.declared.queue.QueueState.{QueueState}
use Rattle.qm_kinds.specs.declared.queue.QueueState.TheVariants.{Stopped, Started, Paused, Stopping}
use Rattle.qm_kinds.specs.declared.entry.EntryState.TheVariants.{Retained}
use Rattle.qm_kinds.specs.declared.entry.JobRetain.TheVariants as job
use Rattle.qm_model.specs.Due.{is_over}
use Rattle.qm_model.specs.Fitting.{is_started}
use Rattle.qm_model.specs.Retaining.{is_retained, retained_until}

-- the columns of the table of queue states
abbrev pub all_states : List QueueState
all_states = Stopped ∷ Started ∷ Paused ∷ Stopping ∷ []

-- whether a job is kept, after a success and after a failure
abbrev pub kept_after : JobRetain → QueueRetain → ℕ → Bool × Bool
kept_after retain queue now = (is_retained retain queue true now, is_retained retain queue false now)

-- a row of the table: what it leads to from Stopped, from Started, from Paused and from Stopping
abbrev pub LeadsTo : (QueueState → QueueState) → QueueState → QueueState → QueueState → QueueState → Type 0
LeadsTo change stopped started paused stopping = map change all_states ≡ stopped ∷ started ∷ paused ∷ stopping ∷ []

-- it leaves no queue started, whatever its state was
abbrev pub LeavesNoneStarted : (QueueState → QueueState) → Type 0
LeavesNoneStarted change = (state : QueueState) → is_started (change state) ≡ false

-- where it is done again, it changes nothing
abbrev pub IsDoneOnce : (QueueState → QueueState) → Type 0
IsDoneOnce change = (state : QueueState) → change (change state) ≡ change state

-- the settings that a job can have
abbrev pub own_settings : ℕ → List JobRetain
own_settings at = job.Always ∷ job.Failed ∷ job.Until at ∷ job.Default ∷ []

-- by its own setting a job is so kept at a moment, after a success and after a failure, whatever the queue's setting is
abbrev pub OwnKeeps : JobRetain → ℕ → Bool × Bool → Type 0
OwnKeeps own now kept = (queue : QueueRetain) → kept_after own queue now ≡ kept

-- by the queue's setting a job that has none of its own is so kept, after a success and after a failure
abbrev pub QueueKeeps : QueueRetain → Bool × Bool → Type 0
QueueKeeps queue kept = (now : ℕ) → kept_after job.Default queue now ≡ kept

-- whether the job is kept at a moment hangs on its own setting alone
abbrev pub OwnDecides : JobRetain → (ℕ → Bool) → Type 0
OwnDecides own kept = (queue : QueueRetain) (success : Bool) (now : ℕ) → is_retained own queue success now ≡ kept now

-- under the queue's setting, what is retained after a success is retained after a failure
abbrev pub FailuresStayToo : QueueRetain → Type 0
FailuresStayToo queue = (own : JobRetain) (now : ℕ) → is_retained own queue true now ≡ true → is_retained own queue false now ≡ true

-- a job that is retained by this setting of its own isn't over at once
abbrev pub IsNotOverAtOnce : JobRetain → Type 0
IsNotOverAtOnce own =
    (queue : QueueRetain) (success : Bool) (status now : ℕ) → is_retained own queue success now ≡ true
    → is_over now (Retained status (retained_until own)) ≡ false
