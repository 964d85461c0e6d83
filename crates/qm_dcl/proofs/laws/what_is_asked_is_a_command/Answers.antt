use Rattle.qm_dcl.proofs.FirstFault.{is_command}
use Rattle.qm_dcl.proofs.laws.what_is_asked_is_a_command.Goals as goal

pub returns : goal.returns
returns c = is_command
