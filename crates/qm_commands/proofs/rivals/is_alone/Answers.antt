use Rattle.std.proofs.Common.{Bool, Option, ap, sym, ◌∙◌}
use Rattle.std.specs.List.{list_all}
use Rattle.qm_commands.specs.declared.rules.Takes.{Takes}
use Rattle.qm_commands.specs.declared.table.Row.{Row}
use Rattle.qm_commands.specs.declared.word.Word.{Word}
use Rattle.qm_commands.specs.Names.{is_no_rival, rules_for}
use Rattle.qm_commands.specs.Rules.{rules_of}
use Rattle.qm_commands.specs.Table.{rows_of}
use Rattle.qm_commands.specs.Words.{spelling}
use Rattle.qm_commands.proofs.RuleLemmas.{all_among}
use Rattle.qm_commands.proofs.rivals.is_alone.Goals as goal

pub returns-in-None : goal.returns-in-None
returns-in-None c =
    let p : Word × Takes → Bool = λ rule. is_no_rival c.args.text.now c.args.token c.args.name.now (spelling rule.0) in
    c.is_alone_in_each.ensures ∙ ap (list_all (λ (row : Row). list_all p (rules_of row.command))) c.rows_of.ensures
    ∙ all_among p (rows_of c.args.verb) ∙ sym (ap (λ (r : Option Row). list_all p (rules_for c.args.verb r)) c.in-None.is)
