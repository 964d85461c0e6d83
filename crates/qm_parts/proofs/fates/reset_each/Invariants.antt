use Rattle.std.proofs.Common.{◌≡◌, map, take}
use Rattle.qm_parts.specs.Mirror.{reset_by}
use Rattle.qm_tables.proofs.Numbers.{kept_as}
use Rattle.qm_parts.proofs.fates.reset_each.Given as goal

-- the runs so far have reset their entries
abbrev pub invariant-loop-run : goal.invariant-loop-run
invariant-loop-run l = l.entries ≡ kept_as (map (reset_by (take l.run-index l.runs) l.queue) l.initial.entries.entries) l.initial.entries.spare
