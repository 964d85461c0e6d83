use Rattle.qm_glog.proofs.Texts.{sound_if_log as law}
use Rattle.qm_glog.proofs.laws.sound_if_log.Goals as goal

pub returns : goal.returns
returns c = law
