use Rattle.std.proofs.Common.{◌≡◌, length}
use Rattle.qm_grammar.specs.Finding.{parameter_behind, first_parameter}
use Rattle.qm_grammar.proofs.finding.first_parameter.Given as goal

abbrev pub invariant-loop-rest : goal.invariant-loop-rest
invariant-loop-rest l = parameter_behind l.in_list l.follows l.rest ≡ first_parameter l.tokens

abbrev pub decreases-loop-rest : goal.decreases-loop-rest
decreases-loop-rest l = length l.rest
