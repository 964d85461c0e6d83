use Rattle.qm_history.proofs.EventLemmas.{nothing_changes}
use Rattle.qm_history.proofs.events.some_events_change_nothing.Goals as goal

pub returns : goal.returns
returns c = nothing_changes
