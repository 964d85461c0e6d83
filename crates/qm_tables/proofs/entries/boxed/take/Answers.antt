use Rattle.std.proofs.Common.{ap, ◌∙◌}
use Rattle.qm_tables.specs.Boxed.{contents}
use Rattle.qm_tables.proofs.Boxes.{contents_removed}
use Rattle.qm_tables.proofs.entries.boxed.take.Goals as goal

pub returns-clause-contents : goal.returns-clause-contents
returns-clause-contents g c = ap contents c.remove.ensures.items ∙ contents_removed c.args.boxes.now.items c.args.place
