use Rattle.qm_glog.proofs.Texts.{one_place as law}
use Rattle.qm_glog.proofs.laws.one_place.Goals as goal

pub returns : goal.returns
returns c = law
