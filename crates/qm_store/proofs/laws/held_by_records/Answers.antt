use Rattle.qm_store.proofs.Contents.{held_records, held_bodies}
use Rattle.qm_store.proofs.laws.held_by_records.Goals as goal

pub returns-clause-records : goal.returns-clause-records
returns-clause-records c = held_records

pub returns-clause-bodies : goal.returns-clause-bodies
returns-clause-bodies c = held_bodies
