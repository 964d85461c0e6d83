use Rattle.std.proofs.Common.{sym, ◌∙◌}
use Rattle.qm_commands.specs.Rules.{exclusions_of}
use Rattle.qm_names.proofs.ConflictPlaces.{no_conflict}
use Rattle.qm_names.proofs.conflict.first_conflict.Goals as goal

pub returns-else-has_slash : goal.returns-else-has_slash
returns-else-has_slash c =
    no_conflict c.args.text.now c.args.verb c.args.row c.args.tokens.now (exclusions_of c.args.verb) (sym c.has_slash.ensures ∙ c.if-has_slash.false)
