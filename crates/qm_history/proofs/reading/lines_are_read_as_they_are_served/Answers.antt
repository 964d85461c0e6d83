use Rattle.qm_history.proofs.ReadingLemmas.{commands_same, acts_same, alone_same, steps_fetch}
use Rattle.qm_history.proofs.reading.lines_are_read_as_they_are_served.Goals as goal

pub returns-clause-commands : goal.returns-clause-commands
returns-clause-commands g = commands_same

pub returns-clause-acts : goal.returns-clause-acts
returns-clause-acts g = acts_same

pub returns-clause-alone : goal.returns-clause-alone
returns-clause-alone g = alone_same

pub returns-clause-steps : goal.returns-clause-steps
returns-clause-steps g = steps_fetch
