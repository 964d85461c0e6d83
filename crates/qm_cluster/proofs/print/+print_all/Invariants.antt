use Rattle.std.proofs.Common.{length}
use Rattle.qm_cluster.proofs.print.+print_all.Given as goal

abbrev pub decreases-print_all : goal.decreases-print_all
decreases-print_all g l = length l.texts.now
