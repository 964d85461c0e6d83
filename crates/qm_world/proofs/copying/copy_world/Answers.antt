use Rattle.qm_world.proofs.Spelled.{log_spelled}
use Rattle.qm_world.proofs.copying.copy_world.Goals as goal

pub copy_records-requires : goal.copy_records-requires
copy_records-requires c = rw c.as_slice-3.ensures (log_spelled _ c.requires.log)
