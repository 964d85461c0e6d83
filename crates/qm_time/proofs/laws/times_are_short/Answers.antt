use Rattle.qm_time.proofs.LengthLemmas as Lengths
use Rattle.qm_time.proofs.laws.times_are_short.Goals as goal

pub returns : goal.returns
returns c = Lengths.times_are_short
