-- What is due at a moment.
-- DCL Dictionary, SUBMIT and PRINT, /AFTER and /RETAIN=UNTIL.
use Rattle.std.specs.Prelude.{◌≡◌, ℕ, nat_le, Bool, false, not, if◌then◌else◌, map, filter, None, Some, All}
use Rattle.qm_kinds.specs.declared.entry.Entry.{Entry}
use Rattle.qm_kinds.specs.declared.entry.EntryState.{EntryState}
use Rattle.qm_kinds.specs.declared.entry.EntryState.TheVariants.{Pending, Holding, Timed, Running, Aborting, Retained}
use Rattle.qm_kinds.specs.declared.system.System.{System}

-- a job that waits until a moment becomes pending then
abbrev pub state_at : ℕ → EntryState → EntryState
state_at now Pending = Pending
state_at now Holding = Holding
state_at now (Timed at) = if nat_le at now then Pending else Timed at
state_at now (Running queue node run) = Running queue node run
state_at now (Aborting queue node run fate) = Aborting queue node run fate
state_at now (Retained status until) = Retained status until

-- a job that is retained until a moment goes then
abbrev pub is_over : ℕ → EntryState → Bool
is_over now Pending = false
is_over now Holding = false
is_over now (Timed at) = false
is_over now (Running queue node run) = false
is_over now (Aborting queue node run fate) = false
is_over now (Retained status None) = false
is_over now (Retained status (Some until)) = nat_le until now

-- the entry as the moment finds it, if it doesn't go
abbrev pub entry_at : ℕ → Entry → Entry
entry_at now e = record e { state = state_at now e.state }

-- the system as the moment finds it
abbrev pub due : ℕ → System → System
due now s = record s { entries = map (entry_at now) (filter (λ e. not (is_over now e.state)) s.entries) }

-- the moment that the job waits for, or until which it is kept, has come
abbrev pub is_due : ℕ → EntryState → Bool
is_due now Pending = false
is_due now Holding = false
is_due now (Timed at) = nat_le at now
is_due now (Running queue node run) = false
is_due now (Aborting queue node run fate) = false
is_due now (Retained status None) = false
is_due now (Retained status (Some until)) = nat_le until now

-- this holds of each system and moment where no job's moment has come
abbrev pub WhereNothingIsDue : (System → ℕ → Type 0) → Type 0
WhereNothingIsDue Holds = (s : System) (now : ℕ) → All (λ e. is_due now e.state ≡ false) s.entries → Holds s now
