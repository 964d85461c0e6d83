use Rattle.qm_kinds.proofs.MatchTable.{no_byte_yet}
use Rattle.qm_kinds.proofs.wildcards.row_before_byte.Goals as goal

pub loop-k-init : goal.loop-k-init
loop-k-init c = no_byte_yet c.args.byte c.args.text.now c.args.row.now
