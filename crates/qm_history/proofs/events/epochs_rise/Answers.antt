use Rattle.qm_history.specs.Happening.{events_of}
use Rattle.qm_history.proofs.EventLemmas.{all_come, rise}
use Rattle.qm_history.proofs.events.epochs_rise.Goals as goal

pub returns-clause-events : goal.returns-clause-events
returns-clause-events c = rise

pub returns-clause-history : goal.returns-clause-history
returns-clause-history c w turns legal = rise w (events_of turns) (all_come w turns legal)
