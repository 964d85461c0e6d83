use Rattle.std.proofs.Common.{length}
use Rattle.qm_cluster.proofs.cluster_ending.+worst_end.Given as goal

abbrev pub decreases-worst_end : goal.decreases-worst_end
decreases-worst_end l = length l.texts.now
