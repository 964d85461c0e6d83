use Rattle.std.proofs.Common.{◌≡◌, filter, map, min, take}
use Rattle.std.specs.List.{reduce}
use Rattle.qm_parts.specs.Mirror.{is_run_for}
use Rattle.qm_parts.proofs.running.least_of_runs.Given as goal

-- the least number of those that were passed
abbrev pub invariant-loop-run : goal.invariant-loop-run
invariant-loop-run l = l.least ≡ reduce min (map (λ r. r.entry) (filter (is_run_for l.entries.entries l.queue) (take l.run-index l.runs)))
