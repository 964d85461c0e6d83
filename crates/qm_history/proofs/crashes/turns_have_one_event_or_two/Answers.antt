use Rattle.qm_history.proofs.ShapeLemmas.{turn_two}
use Rattle.qm_history.proofs.crashes.turns_have_one_event_or_two.Goals as goal

pub returns : goal.returns
returns c = turn_two
