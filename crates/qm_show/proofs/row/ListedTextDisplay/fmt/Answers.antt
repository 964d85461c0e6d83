use Rattle.std.proofs.Output.{has_written_of_eq}
use Rattle.qm_show.proofs.Listed.{listed_from}
use Rattle.qm_show.proofs.row.ListedTextDisplay.fmt.Goals as goal

pub returns-in-len1-up-clause-writes : goal.returns-in-len1-up-clause-writes
returns-in-len1-up-clause-writes g c plain ok =
    has_written_of_eq _ _ _ _ _ (listed_from _ _ _ c.as_slice.ensures c.in-len1-up.len_at_least c.first-item.is) (c.write.ensures.writes plain ok)
