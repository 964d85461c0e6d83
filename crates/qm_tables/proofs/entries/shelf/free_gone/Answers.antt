use Rattle.std.proofs.Common.{◌∙◌, sym, ap}
use Rattle.std.proofs.lemmas.List.{drop-map}
use Rattle.qm_tables.specs.Boxed.{contents}
use Rattle.qm_tables.proofs.Boxes.{value_of}
use Rattle.qm_tables.proofs.entries.shelf.free_gone.Goals as goal

pub returns-clause-left : goal.returns-clause-left
returns-clause-left c = ap contents c.free_first.ensures.items ∙ sym (drop-map value_of c.args.gone.now c.args.row.now.boxes.items)
