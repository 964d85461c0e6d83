use Rattle.qm_history.specs.World.{system_in}
use Rattle.qm_history.proofs.LogLemmas.{accepted_consistent}
use Rattle.qm_history.proofs.sound.sound_worlds_are_consistent.Goals as goal

pub returns-clause-consistent : goal.returns-clause-consistent
returns-clause-consistent c w sound = accepted_consistent c.requests_keep_consistent.ensures w.log sound.log

pub returns-clause-one_queue : goal.returns-clause-one_queue
returns-clause-one_queue c w sound =
    c.entries_stand_in_one_queue.ensures.one (system_in w) (accepted_consistent c.requests_keep_consistent.ensures w.log sound.log)
