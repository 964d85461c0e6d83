use Rattle.qm_spelling.proofs.Values.{name_reads_back}
use Rattle.qm_spelling.proofs.laws.names_read_back.Goals as goal

pub returns : goal.returns
returns c = name_reads_back
