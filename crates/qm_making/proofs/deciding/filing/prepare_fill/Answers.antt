use Rattle.std.proofs.Common.{◌∙◌, sym}
use Rattle.qm_model.specs.Filing.{filling}
use Rattle.qm_image.proofs.Handing.{prepared, no_memory}
use Rattle.qm_making.proofs.deciding.filing.prepare_fill.Goals as goal

pub returns-in-Ok : goal.returns-in-Ok
returns-in-Ok c now node = prepared c.take_lines.result c.in-Ok.change (sym (c.append_refusal.ensures (filling c.args.lines) (sym c.filling_size.ensures)) ∙ c.in_default.is) c.in-Ok.is (c.take_lines.ensures now node)

pub returns-in-Err : goal.returns-in-Err
returns-in-Err c now node = no_memory c.take_lines.result (sym (c.append_refusal.ensures (filling c.args.lines) (sym c.filling_size.ensures)) ∙ c.in_default.is) (c.take_lines.ensures now node)
