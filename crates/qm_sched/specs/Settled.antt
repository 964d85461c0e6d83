-- What settling makes of the tables, whatever else the system has.
use Rattle.std.specs.Prelude.{◌≡◌, ◌≤◌, ℕ, List, length}
use Rattle.qm_model.specs.Common.{Start, System, settled}
use Rattle.qm_parts.specs.Tables.{Tables, with_tables}

-- no more jobs can be started than this
abbrev pub StartsAtMost : Tables → ℕ → Type 0
StartsAtMost t most = (s : System) → length (settled (with_tables s t)).started ≤ most

-- the tables are settled, by these starts
abbrev pub IsSettled : Tables → List Start → Tables → Type 0
IsSettled old started new = (s : System) → settled (with_tables s old) ≡ record { system = with_tables s new; started = started }
