use Rattle.qm_model.specs.Settling.{settled}
use Rattle.qm_model.proofs.SettlingLemmas.{nothing_starts}
use Rattle.qm_model.proofs.ChoiceLemmas.{none_left}
use Rattle.qm_model.proofs.settle.settling_ends.Goals as goal

pub returns : goal.returns
returns c s numbers = none_left (settled s).system (nothing_starts s) numbers
