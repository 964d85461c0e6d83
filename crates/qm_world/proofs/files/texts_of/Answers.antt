use Rattle.qm_world.proofs.Spelled.{log_spelled}
use Rattle.qm_world.proofs.files.texts_of.Goals as goal

pub spell_log-requires : goal.spell_log-requires
spell_log-requires c = rw c.as_slice.ensures (log_spelled _ c.requires.log)
