use Rattle.qm_bytes.proofs.Fields.{number_up_to_reader}
use Rattle.qm_bytes.proofs.laws.numbers_are_read_as_spelled.Goals as goal

pub returns : goal.returns
returns c = number_up_to_reader
