use Rattle.qm_spelling.proofs.ReadAll.{has_spelling}
use Rattle.qm_spelling.proofs.laws.what_is_read_has_a_spelling.Goals as goal

pub returns : goal.returns
returns c = has_spelling
