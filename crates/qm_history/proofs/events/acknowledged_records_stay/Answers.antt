use Rattle.qm_history.proofs.EventLemmas.{acknowledged_in, kept_in}
use Rattle.qm_history.proofs.events.acknowledged_records_stay.Goals as goal

pub returns-clause-acknowledged : goal.returns-clause-acknowledged
returns-clause-acknowledged c = acknowledged_in

pub returns-clause-kept : goal.returns-clause-kept
returns-clause-kept c w before e behind r found = kept_in w before e behind r found.0 found.1
