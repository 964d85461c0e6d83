-- The runs of entries, and when a table of runs mirrors them.
use Rattle.std.specs.Prelude.{◌≡◌, ℕ, ◌==◌, nat_lt, Bool, false, ◌&&◌, ◌||◌, if◌then◌else◌, List, count_by, filter_map, Option, None, Some, bytes_eq}
use Rattle.std.specs.List.{list_any}
use Rattle.std.specs.Option.{option_map_or}
use Rattle.qm_model.specs.Common.{Entry, EntryState, Pending, Holding, Timed, Running, Aborting, Retained, Queue, Run, entry_numbered, state_when_idle, is_running_in, reset_in}
use Rattle.qm_tables.specs.Runs.{places_in_use}

-- the run that an entry of this number has in this state, if it has one
abbrev pub run_in_state : ℕ → EntryState → Option Run
run_in_state number Pending = None
run_in_state number Holding = None
run_in_state number (Timed at) = None
run_in_state number (Running queue node run) = Some (record { run = run; entry = number; queue = queue; node = node })
run_in_state number (Aborting queue node run fate) = Some (record { run = run; entry = number; queue = queue; node = node })
run_in_state number (Retained status until) = None

-- the run of an entry, if it has one
abbrev pub run_of_entry : Entry → Option Run
run_of_entry e = run_in_state e.number e.state

-- the runs of those entries that have one
abbrev pub runs_of : List Entry → List Run
runs_of entries = filter_map run_of_entry entries

-- The runs are just those of the entries, in an order of their own: whatever is asked of a run, as many of these answer yes as of those.
pub record Mirrors (runs : List Run) (entries : List Entry) : Type 0 where
  pub counts : (test : Run → Bool) → count_by test runs ≡ count_by test (runs_of entries)

-- the run is in the queue, and its entry isn't aborting
abbrev pub is_live_in : List Entry → List ℕ → Run → Bool
is_live_in entries queue r = bytes_eq r.queue queue && option_map_or (λ e. is_running_in queue e.state) (entry_numbered r.entry entries) false

-- the run is in the queue, or the queue is the home of its entry
abbrev pub is_run_for : List Entry → List ℕ → Run → Bool
is_run_for entries queue r = bytes_eq r.queue queue || option_map_or (λ e. bytes_eq e.home queue) (entry_numbered r.entry entries) false

-- one of these runs is in the queue, and is that of the entry
abbrev pub has_one_in : List Run → List ℕ → Entry → Bool
has_one_in runs queue e = list_any (λ r. bytes_eq r.queue queue && e.number == r.entry) runs

-- the entry is reset, if one of these runs is in the queue and is its run
abbrev pub reset_by : List Run → List ℕ → Entry → Entry
reset_by runs queue e = if has_one_in runs queue e then reset_in queue e else e

-- a queue that is stopping is stopped, unless one of these runs is in it
abbrev pub stopped_unless_used : List Run → Queue → Queue
stopped_unless_used runs q = record q { state = state_when_idle (nat_lt 0 (places_in_use q.name runs)) q.state }
