-- What the start of jobs leaves of the tables.
use Rattle.std.specs.Prelude.{◌≡◌, List}
use Rattle.qm_model.specs.Common.{Start, System, settled}
use Rattle.qm_parts.specs.Tables.{Tables, with_tables}

-- these jobs start that can, and this is left
abbrev pub AreSettled : Tables → Tables → List Start → Type 0
AreSettled old new started = (s : System) → settled (with_tables s old) ≡ record { system = with_tables s new; started = started }

-- the tables are the same but for their entries, the number of the next run, and the room for runs
abbrev pub DifferInRuns : Tables → Tables → Type 0
DifferInRuns old new = new ≡ record old { entries = new.entries; next_run = new.next_run; spare_runs = new.spare_runs }
