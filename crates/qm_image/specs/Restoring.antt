-- How the entries of a system come into its tables, one by one.
use Rattle.std.specs.Prelude.{◌≡◌, ◌==◌, ◌<◌, ◌+◌, ℕ, if◌then◌else◌, false, List, IfSome}
use Rattle.std.specs.List.{list_any}
use Rattle.qm_model.specs.Common.{Entry, FileName, has_run}
use Rattle.qm_parts.specs.Mirror.{run_of_entry}
use Rattle.qm_parts.specs.Tables.{Tables}
use Rattle.qm_tables.specs.SpoolCounts.{IsCountedAs}
use Rattle.qm_tables.specs.Spool.{Counted, count_of}
use Rattle.qm_tables.specs.Timers.{moment_of}
use Rattle.qm_image.specs.Timers.{moment_in}

-- the run that the entry may have has a number that was given, and no entry of the tables has it
abbrev pub HasOwnRun : Tables → Entry → Type 0
HasOwnRun tables e = IfSome (run_of_entry e) (λ r. (r.run < tables.next_run) × (list_any (has_run r.run) tables.entries ≡ false))

-- the tables are the same but for their entries and timers, and the room for entries, runs and timers
abbrev pub DifferInEntries : Tables → Tables → Type 0
DifferInEntries old new = new ≡ record old {
  entries = new.entries;
  timers = new.timers;
  spare_entries = new.spare_entries;
  spare_runs = new.spare_runs;
  spare_timers = new.spare_timers;
}

-- it is counted that one entry more names the file
abbrev pub IsNamedOnceMore : FileName → List Counted → List Counted → Type 0
IsNamedOnceMore name old new = IsCountedAs name (count_of name old + 1) old new

-- the number of the entry has a timer for the moment that it wants, if it wants one, and each other number the one that it had
abbrev pub HasTimerOf : Entry → List (ℕ × ℕ) → List (ℕ × ℕ) → Type 0
HasTimerOf e old new = (number : ℕ) → moment_of number new ≡ (if e.number == number then moment_in e.state else moment_of number old)
