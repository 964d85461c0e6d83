use Rattle.qm_model.proofs.StayingLemmas.{nothing_due, entries_stay}
use Rattle.qm_model.proofs.due.what_is_not_due_stays.Goals as goal

pub returns-clause-system : goal.returns-clause-system
returns-clause-system c = nothing_due

pub returns-clause-entries : goal.returns-clause-entries
returns-clause-entries c s now h = entries_stay now s.entries h
