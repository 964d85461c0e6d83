use Rattle.std.proofs.Common.{◌∙◌, refl, sym}
use Rattle.qm_model.specs.Common.{Queue, replied_with_queue, with_queue}
use Rattle.qm_image.specs.Image.{system_of}
use Rattle.qm_image.specs.Preparing.{found}
use Rattle.qm_making.proofs.deciding.queues.prepare_set.Goals as goal

pub returns : goal.returns
unfolding system_of
returns c now node =
    let s = found now (system_of c.args.image.now) in
    let same = c.settings_of.ensures (system_of c.args.image.now) (record { forms_are = sym c.form_table.ensures.forms; characteristics_are = sym c.form_table.ensures.characteristics }) in
    record {
      decided = sym c.set_queue_refusal.ensures ∙ c.in_default.is;
      untouched = tt;
      takes = record {
        rows = refl;
        ready = tt;
        made = λ t. replied_with_queue (record s { queues = with_queue c.args.name.now (λ (q : Queue). same q t) s.queues }) c.args.name.now;
      };
    }
