use Rattle.std.proofs.Common.{◌≡◌, drop}
use Rattle.qm_model.specs.Queues.{has_repeats}
use Rattle.qm_rules.proofs.initializing.has_repeats.Given as goal

-- what is left decides
abbrev pub invariant-loop-i : goal.invariant-loop-i
invariant-loop-i l = has_repeats (drop l.i l.names) ≡ has_repeats l.names
