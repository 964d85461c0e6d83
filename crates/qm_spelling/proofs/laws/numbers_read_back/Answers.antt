use Rattle.qm_spelling.proofs.Values.{number_reads_back}
use Rattle.qm_spelling.proofs.laws.numbers_read_back.Goals as goal

pub returns : goal.returns
returns c = number_reads_back
