use Rattle.qm_record.proofs.Records.{no_prefix}
use Rattle.qm_record.proofs.reading.no_record_begins_another.Goals as goal

pub returns : goal.returns
returns c = no_prefix
