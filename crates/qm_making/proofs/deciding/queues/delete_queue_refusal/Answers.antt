use Rattle.std.proofs.Common.{sym, ap, ◌∙◌, bytes_eq}
use Rattle.std.specs.List.{list_any}
use Rattle.qm_model.specs.Referring.{refused_by_queue}
use Rattle.qm_image.specs.Image.{system_of}
use Rattle.qm_making.proofs.deciding.queues.delete_queue_refusal.Goals as goal

pub returns : goal.returns
unfolding system_of
returns c =
    c.delete_queue_refusal.ensures (system_of c.args.image.now) (sym c.queue_table.ensures)
    (sym (c.refused_by_queue.ensures ∙ ap (refused_by_queue (λ q. list_any (bytes_eq c.args.name.now) q.targets)) c.queues.ensures.queues)) (sym c.first_run_for.ensures)
