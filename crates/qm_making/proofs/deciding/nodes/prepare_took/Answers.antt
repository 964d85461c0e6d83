use Rattle.std.proofs.Common.{refl}
use Rattle.qm_image.proofs.Handing.{prepared, no_memory}
use Rattle.qm_making.proofs.deciding.nodes.prepare_took.Goals as goal

pub returns-in-Ok : goal.returns-in-Ok
returns-in-Ok c now node = prepared c.take_takeover.result c.in-Ok.change refl c.in-Ok.is (c.take_takeover.ensures now node)

pub returns-in-Err : goal.returns-in-Err
returns-in-Err c now node = no_memory c.take_takeover.result refl (c.take_takeover.ensures now node)
