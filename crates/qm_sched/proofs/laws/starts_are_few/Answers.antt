use Rattle.qm_sched.proofs.FewStarts.{few_by_entries, few_by_places}
use Rattle.qm_sched.proofs.laws.starts_are_few.Goals as goal

pub returns-clause-entries : goal.returns-clause-entries
returns-clause-entries c = few_by_entries

pub returns-clause-places : goal.returns-clause-places
returns-clause-places c = few_by_places
