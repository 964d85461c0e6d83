use Rattle.qm_dcl.proofs.FirstFault.{is_first}
use Rattle.qm_dcl.proofs.laws.no_fault_is_told_behind_the_first.Goals as goal

pub returns : goal.returns
returns c = is_first
