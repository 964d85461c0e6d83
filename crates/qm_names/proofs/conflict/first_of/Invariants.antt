use Rattle.std.proofs.Common.{◌≡◌, length}
use Rattle.qm_commands.specs.Rules.{exclusions_of}
use Rattle.qm_names.specs.Conflicts.{earlier, first_conflict}
use Rattle.qm_names.proofs.conflict.first_of.Given as goal

abbrev pub invariant-loop-rest : goal.invariant-loop-rest
invariant-loop-rest l = earlier l.place (first_conflict l.text l.verb l.row l.tokens l.rest) ≡ first_conflict l.text l.verb l.row l.tokens (exclusions_of l.fn.verb)

abbrev pub decreases-loop-rest : goal.decreases-loop-rest
decreases-loop-rest l = length l.rest
