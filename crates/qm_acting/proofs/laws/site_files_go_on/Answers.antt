use Rattle.qm_acting.proofs.Following.{goes_on}
use Rattle.qm_acting.proofs.laws.site_files_go_on.Goals as goal

pub returns : goal.returns
returns c = goes_on
