use Rattle.std.proofs.Common.{◌≡◌, filter, map, min, take}
use Rattle.std.specs.List.{reduce}
use Rattle.qm_model.specs.Find.{is_among}
use Rattle.qm_parts.proofs.nodes.least_on.Given as goal

-- the least number of those that were passed
abbrev pub invariant-loop-run : goal.invariant-loop-run
invariant-loop-run l = l.least ≡ reduce min (map (λ r. r.entry) (filter (λ r. is_among l.nodes r.node) (take l.run-index l.runs)))
