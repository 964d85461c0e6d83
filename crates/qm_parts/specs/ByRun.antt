-- The entries that have runs on a node, as they are found by their runs.
use Rattle.std.specs.Prelude.{◌≡◌, ℕ, if◌then◌else◌, List, filter, filter_map, Option, None, bytes_eq}
use Rattle.qm_model.specs.Common.{Entry, Run, by_run, entry_numbered, is_run_on}

-- the entry of a run that is on the node
abbrev pub entry_on : List ℕ → List Entry → Run → Option Entry
entry_on node entries r = if bytes_eq r.node node then entry_numbered r.entry entries else None

-- the runs stand in order of their numbers, and those of each node are those of the entries that run or are aborting there
abbrev pub AreByRun : List Entry → List Run → Type 0
AreByRun entries runs = (node : List ℕ) → filter_map (entry_on node entries) runs ≡ by_run (filter (is_run_on node) entries)
