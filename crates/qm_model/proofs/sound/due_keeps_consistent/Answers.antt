use Rattle.qm_model.proofs.DueLemmas.{due_is_consistent}
use Rattle.qm_model.proofs.JobLemmas.{found_is_consistent}
use Rattle.qm_model.proofs.sound.due_keeps_consistent.Goals as goal

pub returns : goal.returns
returns c = record { due = due_is_consistent; found = found_is_consistent }
