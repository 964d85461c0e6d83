use Rattle.qm_history.proofs.EventLemmas.{events_begin, turns_begin}
use Rattle.qm_history.proofs.events.logs_grow.Goals as goal

pub returns-clause-events : goal.returns-clause-events
returns-clause-events c = events_begin

pub returns-clause-turns : goal.returns-clause-turns
returns-clause-turns c = turns_begin
