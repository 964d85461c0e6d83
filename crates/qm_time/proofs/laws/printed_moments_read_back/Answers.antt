use Rattle.qm_time.proofs.PrintedLemmas.{read-printed}
use Rattle.qm_time.proofs.laws.printed_moments_read_back.Goals as goal

pub returns : goal.returns
returns c = read-printed
