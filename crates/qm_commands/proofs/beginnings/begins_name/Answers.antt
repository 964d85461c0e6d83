use Rattle.std.proofs.Common.{Bool, Option, ap, sym, ◌∙◌}
use Rattle.std.specs.List.{list_any}
use Rattle.qm_commands.specs.declared.rules.Takes.{Takes}
use Rattle.qm_commands.specs.declared.table.Row.{Row}
use Rattle.qm_commands.specs.declared.word.Word.{Word}
use Rattle.qm_commands.specs.Names.{rules_for}
use Rattle.qm_commands.specs.Rules.{rules_of}
use Rattle.qm_commands.specs.Spelled.{begins}
use Rattle.qm_commands.specs.Table.{rows_of}
use Rattle.qm_commands.specs.Words.{spelling}
use Rattle.qm_commands.proofs.RuleLemmas.{any_among}
use Rattle.qm_commands.proofs.beginnings.begins_name.Goals as goal

pub returns-in-None : goal.returns-in-None
returns-in-None c =
    let p : Word × Takes → Bool = λ rule. begins c.args.text.now (spelling rule.0) c.args.token in
    c.begins_name_in_one.ensures ∙ ap (list_any (λ (row : Row). list_any p (rules_of row.command))) c.rows_of.ensures
    ∙ any_among p (rows_of c.args.verb) ∙ sym (ap (λ (r : Option Row). list_any p (rules_for c.args.verb r)) c.in-None.is)
