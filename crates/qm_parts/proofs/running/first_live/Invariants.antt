use Rattle.std.proofs.Common.{◌≡◌, false, take}
use Rattle.std.specs.List.{list_any}
use Rattle.qm_parts.specs.Mirror.{is_live_in}
use Rattle.qm_parts.proofs.running.first_live.Given as goal

-- none of those that were passed is it
abbrev pub invariant-loop-run : goal.invariant-loop-run
invariant-loop-run l = list_any (is_live_in l.entries.entries l.queue) (take l.run-index l.runs) ≡ false
