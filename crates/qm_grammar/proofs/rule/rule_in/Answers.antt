use Rattle.std.proofs.Common.{None, Some, find, ap, ◌∙◌}
use Rattle.qm_commands.specs.Names.{is_name}
use Rattle.qm_commands.proofs.RuleLemmas.{found}
use Rattle.qm_grammar.proofs.rule.rule_in.Goals as goal

pub returns-in-Some : goal.returns-in-Some
returns-in-Some c =
    found (λ rule. is_name c.args.text.now c.args.verb c.args.row c.args.token rule.0) c.args.command c.own_rules.result.now (Some c.in-Some.rule)
    c.own_rules.ensures c.in-Some.ensures

pub returns-in-None : goal.returns-in-None
returns-in-None c =
    c.rule_by-in-None.ensures
    ∙ ap (find (λ rule. is_name c.args.text.now c.args.verb c.args.row c.args.token rule.0)) c.settings.ensures
    ∙ found (λ rule. is_name c.args.text.now c.args.verb c.args.row c.args.token rule.0) c.args.command c.own_rules.result.now None
    c.own_rules.ensures c.in-None.ensures
