-- What calls of a manager leave of the disk beside the records.
use Rattle.std.specs.Prelude.{IsTrue}
use Rattle.qm_disk.specs.Disk.{Meaning, TellsFaults}
use Rattle.qm_acting.specs.Spare.{KeepsSpare}

-- One call of the disk failed where a fault is told, and none where none is. The same queue file is live, and the other stays.
pub record LeavesDisk {D : Type 0} (m : Meaning D) (old new : D) (told : Type 0) : Type 0 where
  pub faults : TellsFaults m old new told
  pub spare : IsTrue m.tells → KeepsSpare m old new
