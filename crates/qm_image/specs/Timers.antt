-- The timers that entries want.
use Rattle.std.specs.Prelude.{◌≡◌, ◌≤◌, ℕ, not, List, filter, map, Option, None, Some, option_and_then}
use Rattle.qm_model.specs.Common.{Entry, EntryState, Pending, Holding, Timed, Running, Aborting, Retained, entry_at, is_over, entry_numbered}
use Rattle.qm_tables.specs.Timers.{moment_of}

-- the moment that a job in this state waits for, or until which it is kept, if there is one
abbrev pub moment_in : EntryState → Option ℕ
moment_in Pending = None
moment_in Holding = None
moment_in (Timed at) = Some at
moment_in (Running queue node run) = None
moment_in (Aborting queue node run fate) = None
moment_in (Retained status until) = until

-- the moment for which the entry of a number wants a timer, if there is such an entry, and it wants one
abbrev pub moment_wanted : ℕ → List Entry → Option ℕ
moment_wanted number entries = option_and_then (λ e. moment_in e.state) (entry_numbered number entries)

-- The timers are those of the entries: each number has one for the moment that its entry waits for, or until which it is kept,
-- and else none.
abbrev pub AreTimersOf : List Entry → List (ℕ × ℕ) → Type 0
AreTimersOf entries timers = (number : ℕ) → moment_of number timers ≡ moment_wanted number entries

-- the entries as the moment finds them
abbrev pub entries_at : ℕ → List Entry → List Entry
entries_at now entries = map (entry_at now) (filter (λ e. not (is_over now e.state)) entries)

-- there is a moment, and it has come
pub record HasCome (now : ℕ) (moment : Option ℕ) : Type 0 where
  pub at : ℕ
  pub is : moment ≡ Some at
  pub come : at ≤ now

-- the moment for which what is left of an entry wants a timer, if anything is left, and wants one
abbrev pub moment_left : Option Entry → Option ℕ
moment_left left = option_and_then (λ e. moment_in e.state) left
