use Rattle.qm_glog.proofs.Texts.{one_list as law}
use Rattle.qm_glog.proofs.laws.one_list.Goals as goal

pub returns : goal.returns
returns c = law
