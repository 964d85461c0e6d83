use Rattle.qm_tables.specs.Boxed.{contents}
use Rattle.qm_tables.specs.Changes.{changed_by}
use Rattle.qm_tables.proofs.Behind.{changed_behind}
use Rattle.qm_tables.proofs.entries.shelf.Shelf.change_at.Goals as goal

pub returns-clause-entries : goal.returns-clause-entries
returns-clause-entries c = λ d.
    rw (← c.self.view_is)
    (changed_behind c.self.inside.gone (contents c.self.inside.row.boxes.items) (changed_by c.args.change.now) (contents c.change_at.new.self.boxes.items) c.args.place d (c.change_at.ensures.contents d))
