-- What an entry has to do with the runs of the tables.
use Rattle.std.specs.Prelude.{◌≡◌, ◌<◌, ◌-◌, ℕ, if◌then◌else◌, is_some, false, ◌&&◌, List, find, filter, map, min, Option, None, Some, IfSome, MatchOption, option_map, option_and_then}
use Rattle.std.specs.List.{list_any, reduce}
use Rattle.qm_model.specs.Common.{Entry, EntryState, Running, Run, entry_numbered, has_run, is_run_on, is_running_in}
use Rattle.qm_tables.specs.Changes.{with_changed, with_state}
use Rattle.qm_tables.specs.Runs.{Begun, run_numbered, with_run, without_run}
use Rattle.qm_parts.specs.Mirror.{run_of_entry}
use Rattle.qm_parts.specs.Tables.{Tables}

-- the state of the entry of a number, if there is one
abbrev pub state_numbered : ℕ → List Entry → Option EntryState
state_numbered number entries = option_map (λ e. e.state) (entry_numbered number entries)

-- the jobs that run in a queue and aren't aborting
abbrev pub running_in : List ℕ → List Entry → List Entry
running_in queue entries = filter (λ e. is_running_in queue e.state) entries

-- the entry that has the run of a number, where it runs on the node
abbrev pub running_on : ℕ → List ℕ → List Entry → Option Entry
running_on run node entries = find (λ e. has_run run e && is_run_on node e) entries

-- there is room for the run that the entry may have, its number was given, and no entry has it
abbrev pub CanRestoreRun : Entry → Tables → Type 0
CanRestoreRun entry t =
    IfSome (run_of_entry entry) (λ r. (0 < t.spare_runs) × (r.run < t.next_run) × (list_any (has_run r.run) t.entries ≡ false))

-- the run that the entry may have is that of the entry in whose place it comes
abbrev pub KeepsRun : Entry → List Entry → Type 0
KeepsRun entry entries =
    IfSome (run_of_entry entry) (λ run. option_and_then run_of_entry (entry_numbered entry.number entries) ≡ Some run)

-- there is room among the runs for that of the entry, if it has one, its number was given, and no run has it
abbrev pub CanPutRun : Entry → Begun → Type 0
CanPutRun entry begun =
    IfSome (run_of_entry entry) (λ r. (0 < begun.spare) × (r.run < begun.next) × (run_numbered r.run begun.runs ≡ None))

-- the run, if there is one, is put in
abbrev pub PutsRun : Option Run → List Run → List Run → Type 0
PutsRun run old new = MatchOption run (new ≡ old) (λ r. new ≡ with_run r old)

-- the run of the number, if there is one, is taken out
abbrev pub EndsRun : Option ℕ → List Run → List Run → Type 0
EndsRun number old new = MatchOption number (new ≡ old) (λ run. new ≡ without_run run old)

-- the least number of an entry that one of these runs is of
abbrev pub least_entry : List Run → Option ℕ
least_entry runs = reduce min (map (λ r. r.entry) runs)

-- the entries, of which the one of this number runs in a queue and on a node, under this run
abbrev pub with_running : ℕ → List ℕ → List ℕ → ℕ → List Entry → List Entry
with_running number queue node run entries = with_changed number (with_state (Running queue node run)) entries

-- for how many more runs there is room once that of the entry was put in, if it has one
abbrev pub run_room_with : Entry → ℕ → ℕ
run_room_with entry room = if is_some (run_of_entry entry) then room - 1 else room
