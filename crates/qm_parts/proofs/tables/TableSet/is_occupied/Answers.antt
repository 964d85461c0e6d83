use Rattle.std.proofs.Common.{nat_lt, ap, ◌∙◌, bytes_eq}
use Rattle.std.specs.List.{list_any}
use Rattle.qm_model.specs.Common.{Run, occupies}
use Rattle.qm_parts.specs.Tables.{Tables}
use Rattle.qm_parts.proofs.Counts.{any_counted}
use Rattle.qm_parts.proofs.Mirrored.{count_as, in_queue}
use Rattle.qm_parts.proofs.tables.TableSet.is_occupied.Goals as goal

-- a queue is occupied where a place of it is taken
pub returns : goal.returns
returns c =
    ap (nat_lt 0)
    (c.in_use.ensures
    ∙ count_as c.self.inside.runs.runs c.self.inside.entries.entries c.self.invariant (λ (r : Run). bytes_eq r.queue c.args.queue.now) (occupies c.args.queue.now) (in_queue c.args.queue.now c.self.inside.entries.entries))
    ∙ any_counted (occupies c.args.queue.now) c.self.inside.entries.entries
    ∙ ap (λ (t : Tables). list_any (occupies c.args.queue.now) t.entries) c.self.view_is
