use Rattle.std.proofs.Common.{◌≡◌, None, find, length}
use Rattle.qm_commands.specs.Names.{rules_among, is_name, rule_for}
use Rattle.qm_grammar.proofs.rule.rule_among.Given as goal

abbrev pub invariant-loop-rest : goal.invariant-loop-rest
invariant-loop-rest l = find (λ rule. is_name l.text l.verb None l.token rule.0) (rules_among l.rest) ≡ rule_for l.text l.fn.verb None l.token

abbrev pub decreases-loop-rest : goal.decreases-loop-rest
decreases-loop-rest l = length l.rest
