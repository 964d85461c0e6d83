use Rattle.qm_spelling.proofs.Values.{pattern_reads_back}
use Rattle.qm_spelling.proofs.laws.patterns_read_back.Goals as goal

pub returns : goal.returns
returns c = pattern_reads_back
