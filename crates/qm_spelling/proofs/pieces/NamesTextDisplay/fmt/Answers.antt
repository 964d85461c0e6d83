use Rattle.std.proofs.Output.{has_written_of_eq}
use Rattle.std.proofs.Common.{refl}
use Rattle.qm_spelling.proofs.Listed.{names_from}
use Rattle.qm_spelling.proofs.pieces.NamesTextDisplay.fmt.Goals as goal

pub returns-in-len1-up-clause-writes : goal.returns-in-len1-up-clause-writes
returns-in-len1-up-clause-writes g c plain ok =
    has_written_of_eq _ _ _ _ _ (names_from _ _ _ refl c.in-len1-up.len_at_least c.first-item.is) (c.write-in-len1-up.ensures.writes plain ok)
