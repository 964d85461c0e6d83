use Rattle.std.proofs.Common.{◌∙◌}
use Rattle.qm_view.proofs.Works.{is_found}
use Rattle.qm_view.proofs.telling.is_among.Goals as goal

pub returns : goal.returns
returns c = c.is_ok.ensures.value ∙ is_found c.args.numbers.now c.args.number c.binary_search.result c.requires c.binary_search.ensures.position
