use Rattle.std.proofs.Common.{take}
use Rattle.qm_model.specs.Consistent.{IsConsistent}
use Rattle.qm_image.specs.Image.{system_of}
use Rattle.qm_restore.specs.Restoring.{Stands}
use Rattle.qm_restore.proofs.restoring.restore_records.Given as goal

-- the records so far are a queue file of the image, which each longer one goes on from
abbrev pub invariant-loop-index : goal.invariant-loop-index
invariant-loop-index g l = record {
  stands : Stands (take l.index (g.B.Bodies.bodies l.log)) (system_of l.image);
  sound : IsConsistent (system_of l.image);
}
