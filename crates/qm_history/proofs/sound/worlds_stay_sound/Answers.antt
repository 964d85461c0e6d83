use Rattle.qm_history.proofs.SoundLemmas.{step_sound, steps_sound, history_sound}
use Rattle.qm_history.proofs.sound.worlds_stay_sound.Goals as goal

pub returns-clause-event : goal.returns-clause-event
returns-clause-event c = step_sound c.nodes_keep_their_names.ensures.names

pub returns-clause-events : goal.returns-clause-events
returns-clause-events c = steps_sound c.nodes_keep_their_names.ensures.names

pub returns-clause-history : goal.returns-clause-history
returns-clause-history c = history_sound c.nodes_keep_their_names.ensures.names
