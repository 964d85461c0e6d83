use Rattle.std.proofs.Common.{◌≡◌, ◌∙◌, List, Some, sym, ap}
use Rattle.qm_model.specs.Common.{Queue, queue_named}
use Rattle.qm_parts.specs.Tables.{Tables}
use Rattle.qm_parts.proofs.KeptRows.{named_at, none_named}
use Rattle.qm_parts.proofs.tables.TableSet.queue.Goals as goal

pub returns-in-Ok-clause-found : goal.returns-in-Ok-clause-found
returns-in-Ok-clause-found c =
    let qs : List Queue = c.as_slice-queues.result.now in
    let all : qs ≡ c.args.self.now.queues = c.as_slice-queues.ensures.queues ∙ ap (λ (t : Tables). t.queues) c.self.view_is in
    ap (λ (q : Queue). Some q) c.index-queues-place.is
    ∙ sym (named_at qs c.args.name.now c.in-Ok.place c.in-Ok.ensures c.index-queues-place.result)
    ∙ ap (λ (ps : List Queue). queue_named c.args.name.now ps) all

pub returns-in-Err-clause-found : goal.returns-in-Err-clause-found
returns-in-Err-clause-found c =
    let qs : List Queue = c.as_slice-queues.result.now in
    let all : qs ≡ c.args.self.now.queues = c.as_slice-queues.ensures.queues ∙ ap (λ (t : Tables). t.queues) c.self.view_is in
    sym (none_named qs c.args.name.now c.in-Err.field-0 c.in-Err.ensures) ∙ ap (λ (ps : List Queue). queue_named c.args.name.now ps) all
