use Rattle.std.proofs.Common.{◌∙◌, sym}
use Rattle.qm_image.proofs.Handing.{prepared, no_memory}
use Rattle.qm_making.proofs.deciding.queues.prepare_initialize.Goals as goal

pub returns-in-Ok : goal.returns-in-Ok
returns-in-Ok c now = prepared c.take_queue.result c.in-Ok.change (sym c.initialize_refusal.ensures ∙ c.in_default.is) c.in-Ok.is (c.take_queue.ensures now)

pub returns-in-Err : goal.returns-in-Err
returns-in-Err c now = no_memory c.take_queue.result (sym c.initialize_refusal.ensures ∙ c.in_default.is) (c.take_queue.ensures now)
