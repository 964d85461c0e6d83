use Rattle.std.proofs.Common.{◌≡◌, ◌∙◌, List, map, ap}
use Rattle.qm_model.specs.Common.{Queue, when_idle}
use Rattle.qm_tables.proofs.QueueNames.{kept_as}
use Rattle.qm_parts.specs.Tables.{Tables}
use Rattle.qm_parts.proofs.Stops.{all_idle}
use Rattle.qm_parts.proofs.tables.TableSet.stop_idle.Goals as goal

pub returns : goal.returns
returns c =
    let queues : c.stop_unused.new.queues ≡ kept_as (map (when_idle c.self.inside.entries.entries) c.self.inside.queues.queues) c.self.inside.queues.spare =
    c.stop_unused.ensures
    ∙ ap (λ (qs : List Queue). kept_as qs c.self.inside.queues.spare) (all_idle c.self.inside.runs.runs c.self.inside.entries.entries c.self.invariant c.self.inside.queues.queues) in
    rw queues (ap (λ (t : Tables). record t { queues = map (when_idle t.entries) t.queues }) c.self.view_is)
