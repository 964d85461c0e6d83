use Rattle.std.proofs.Common.{◌==◌, length, ap, ◌∙◌}
use Rattle.qm_commands.proofs.NameLemmas.{as_long_whole}
use Rattle.qm_names.proofs.names.is_as_long.Goals as goal

pub returns : goal.returns
returns c begun = ap (λ w. length w == length c.args.name.now) c.bytes_of.ensures ∙ as_long_whole c.args.text.now c.args.token c.args.name.now begun
