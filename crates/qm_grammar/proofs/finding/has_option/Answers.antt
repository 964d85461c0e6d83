use Rattle.std.proofs.Common.{None, is_some, ap, sym, ◌∙◌}
use Rattle.qm_grammar.specs.Finding.{has_option}
use Rattle.qm_names.proofs.ConflictPlaces.{no_place}
use Rattle.qm_grammar.proofs.finding.has_option.Goals as goal

pub returns-else-has_slash : goal.returns-else-has_slash
returns-else-has_slash c =
    let text = c.args.text.now in
    let tokens = c.args.tokens.now in
    c.if-has_slash.false ∙ sym (ap is_some (no_place text c.args.verb None c.in-Some.word None tokens (sym c.has_slash.ensures ∙ c.if-has_slash.false)))
    ∙ sym (ap (has_option text c.args.verb tokens) c.in-Some.is)
