use Rattle.std.proofs.Common.{ap, ◌∙◌, bytes_eq}
use Rattle.qm_model.specs.Common.{Run, places_taken, occupies}
use Rattle.qm_parts.specs.Tables.{Tables}
use Rattle.qm_parts.proofs.Mirrored.{count_as, in_queue}
use Rattle.qm_parts.proofs.tables.TableSet.places_taken.Goals as goal

pub returns : goal.returns
returns c =
    c.in_use.ensures
    ∙ count_as c.self.inside.runs.runs c.self.inside.entries.entries c.self.invariant (λ (r : Run). bytes_eq r.queue c.args.queue.now) (occupies c.args.queue.now) (in_queue c.args.queue.now c.self.inside.entries.entries)
    ∙ ap (λ (t : Tables). places_taken t.entries c.args.queue.now) c.self.view_is
