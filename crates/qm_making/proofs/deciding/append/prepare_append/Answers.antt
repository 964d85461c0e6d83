use Rattle.std.proofs.Common.{◌∙◌, refl, sym}
use Rattle.qm_image.proofs.Handing.{prepared, no_memory}
use Rattle.qm_making.proofs.deciding.append.prepare_append.Goals as goal

pub returns-in-Ok : goal.returns-in-Ok
returns-in-Ok c now node = prepared c.take_bytes.result c.in-Ok.change (sym (c.append_refusal.ensures c.args.bytes.now refl) ∙ c.in_default.is) c.in-Ok.is (c.take_bytes.ensures now node)

pub returns-in-Err : goal.returns-in-Err
returns-in-Err c now node = no_memory c.take_bytes.result (sym (c.append_refusal.ensures c.args.bytes.now refl) ∙ c.in_default.is) (c.take_bytes.ensures now node)
