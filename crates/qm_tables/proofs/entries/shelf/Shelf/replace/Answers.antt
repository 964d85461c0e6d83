use Rattle.std.proofs.Common.{◌∙◌, drop, refl, ap}
use Rattle.std.proofs.lemmas.List.{drop-set-add}
use Rattle.qm_tables.specs.Boxed.{contents}
use Rattle.qm_tables.proofs.Behind.{stands_behind}
use Rattle.qm_tables.proofs.entries.shelf.Shelf.replace.Goals as goal

pub returns-clause-replaced : goal.returns-clause-replaced
returns-clause-replaced c = rw (← c.self.view_is) (c.replace.ensures.replaced ∙ stands_behind c.self.inside.gone (contents c.self.inside.row.boxes.items) c.args.place _ refl)

pub returns-clause-entries : goal.returns-clause-entries
returns-clause-entries c =
    rw (← c.self.view_is) (ap (drop c.self.inside.gone) c.replace.ensures.contents ∙ drop-set-add c.self.inside.gone (contents c.self.inside.row.boxes.items) c.args.place c.args.entry.now)
