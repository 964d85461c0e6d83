use Rattle.std.proofs.Common.{length}
use Rattle.qm_model.specs.Settling.{settled}
use Rattle.qm_model.proofs.SettlingLemmas.{nothing_starts, stays}
use Rattle.qm_model.proofs.settle.settling_is_done_once.Goals as goal

pub returns : goal.returns
returns c s = stays (length (settled s).system.entries) (settled s).system (nothing_starts s)
