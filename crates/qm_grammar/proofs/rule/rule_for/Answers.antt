use Rattle.std.proofs.Common.{Option, ap, sym, ◌∙◌}
use Rattle.qm_commands.specs.declared.table.Row.{Row}
use Rattle.qm_commands.specs.Names.{rule_for}
use Rattle.qm_grammar.proofs.rule.rule_for.Goals as goal

pub returns-in-Some : goal.returns-in-Some
returns-in-Some c = c.rule_in.ensures ∙ sym (ap (λ (r : Option Row). rule_for c.args.text.now c.args.verb r c.args.token) c.in-Some.is)
