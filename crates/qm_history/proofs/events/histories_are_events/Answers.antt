use Rattle.qm_history.proofs.EventLemmas.{all_come, world_of_events}
use Rattle.qm_history.proofs.events.histories_are_events.Goals as goal

pub returns-clause-come : goal.returns-clause-come
returns-clause-come c = all_come

pub returns-clause-world : goal.returns-clause-world
returns-clause-world c = world_of_events
