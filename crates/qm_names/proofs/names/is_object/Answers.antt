use Rattle.std.proofs.Common.{sym, ap, ◌∙◌}
use Rattle.qm_commands.specs.Names.{is_object_alone}
use Rattle.qm_commands.specs.Spelled.{begins}
use Rattle.qm_commands.specs.Words.{spelling}
use Rattle.qm_commands.proofs.NameLemmas.{unbegun}
use Rattle.qm_names.proofs.names.is_object.Goals as goal

pub returns-else-begins : goal.returns-else-begins
returns-else-begins c =
    let name = spelling c.args.word in
    let not_begun = sym (ap (λ n. begins c.args.text.now n c.args.token) c.spelling-name.ensures) ∙ sym c.begins.ensures ∙ c.if-begins.false in
    c.if-begins.false ∙ sym (unbegun c.args.text.now c.args.token name (is_object_alone c.args.text.now c.args.verb c.args.token name) not_begun)
