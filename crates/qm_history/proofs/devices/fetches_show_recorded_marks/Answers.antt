use Rattle.qm_history.proofs.GivenLemmas.{gives_work}
use Rattle.qm_history.proofs.devices.fetches_show_recorded_marks.Goals as goal

pub returns : goal.returns
returns c = gives_work
