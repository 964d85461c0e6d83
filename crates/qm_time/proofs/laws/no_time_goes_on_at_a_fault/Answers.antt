use Rattle.qm_time.proofs.FaultLemmas.{same_fault}
use Rattle.qm_time.proofs.laws.no_time_goes_on_at_a_fault.Goals as goal

pub returns : goal.returns
returns c = same_fault
