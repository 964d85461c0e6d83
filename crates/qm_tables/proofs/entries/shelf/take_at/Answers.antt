use Rattle.std.proofs.Common.{◌∙◌, drop, refl, ap}
use Rattle.qm_tables.specs.Boxed.{contents}
use Rattle.qm_tables.proofs.Behind.{removed_behind, stands_behind}
use Rattle.qm_tables.proofs.entries.shelf.take_at.Goals as goal

pub returns-clause-left : goal.returns-clause-left
returns-clause-left c = ap (drop c.args.gone.now) c.take.ensures.contents ∙ removed_behind c.args.gone.now (contents c.args.row.now.boxes.items) c.args.place _ refl

pub returns-clause-taken : goal.returns-clause-taken
returns-clause-taken c = c.take.ensures.taken ∙ stands_behind c.args.gone.now (contents c.args.row.now.boxes.items) c.args.place _ refl
