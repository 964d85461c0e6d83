use Rattle.std.proofs.Common.{◌≡◌, drop}
use Rattle.qm_model.specs.Outcome.{first_refusal}
use Rattle.qm_rules.proofs.refusals.first_refusal.Given as goal

-- what is left decides
abbrev pub invariant-loop-refusal : goal.invariant-loop-refusal
invariant-loop-refusal l = first_refusal (drop l.refusal-index l.refusals) ≡ first_refusal l.refusals
