use Rattle.std.proofs.Common.{set, ap, ◌∙◌}
use Rattle.qm_tables.specs.Boxed.{contents}
use Rattle.qm_tables.proofs.Boxes.{contents_set}
use Rattle.qm_tables.proofs.entries.boxed.replace.Goals as goal

pub returns-clause-contents : goal.returns-clause-contents
returns-clause-contents g c = contents_set c.args.boxes.now.items c.args.place c.replace.new.b ∙ ap (set (contents c.args.boxes.now.items) c.args.place) c.replace.ensures.after
