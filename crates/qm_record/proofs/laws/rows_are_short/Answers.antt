use Rattle.qm_record.specs.Rows.{rows_are_short as law}
use Rattle.qm_record.proofs.laws.rows_are_short.Goals as goal

pub returns : goal.returns
returns c = law
