use Rattle.qm_model.proofs.SoundLemmas.{settled_is_consistent}
use Rattle.qm_model.proofs.sound.settling_keeps_consistent.Goals as goal

pub returns : goal.returns
returns c = settled_is_consistent
