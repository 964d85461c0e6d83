use Rattle.std.proofs.Common.{sym}
use Rattle.qm_image.specs.Image.{system_of}
use Rattle.qm_making.proofs.deciding.queues.set_queue_refusal.Goals as goal

pub returns : goal.returns
unfolding system_of
returns c =
    c.set_queue_refusal.ensures (system_of c.args.image.now)
    (record { forms_are = sym c.form_table.ensures.forms; characteristics_are = sym c.form_table.ensures.characteristics })
    (record { queues_are = sym c.queue_table.ensures })
