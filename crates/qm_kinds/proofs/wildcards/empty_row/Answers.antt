use Rattle.qm_kinds.proofs.MatchTable.{empty_is_row}
use Rattle.qm_kinds.proofs.wildcards.empty_row.Goals as goal

pub returns : goal.returns
returns c = empty_is_row c.args.last c.requires
