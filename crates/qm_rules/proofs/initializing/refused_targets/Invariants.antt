use Rattle.std.proofs.Common.{◌≡◌, drop, not, find}
use Rattle.qm_kinds.specs.declared.system.System.{System}
use Rattle.qm_model.specs.Queues.{is_target}
use Rattle.qm_rules.specs.Settings.{HasQueues}
use Rattle.qm_rules.proofs.initializing.refused_targets.Given as goal

-- what is left decides
abbrev pub invariant-loop-name : goal.invariant-loop-name
invariant-loop-name l =
    (s : System) → HasQueues s l.queues
    → find (λ name. not (is_target s l.new.kind name)) (drop l.name-index l.targets) ≡ find (λ name. not (is_target s l.new.kind name)) l.targets
