use Rattle.qm_history.proofs.AfterLemmas.{goes_on, acknowledged_left, kept_left}
use Rattle.qm_history.proofs.crashes.programs_go_on_after_crashes.Goals as goal

pub returns-clause-sound : goal.returns-clause-sound
returns-clause-sound c = goes_on c.nodes_keep_their_names.ensures.names

pub returns-clause-acknowledged : goal.returns-clause-acknowledged
returns-clause-acknowledged c = acknowledged_left

pub returns-clause-kept : goal.returns-clause-kept
returns-clause-kept c w before t log some e others r left is found = kept_left w before t log some e others r left is found.0 found.1
