use Rattle.std.proofs.Common.{⊎_elim}
use Rattle.qm_acting.proofs.Judging.{no_site_unlawful}
use Rattle.qm_acting.proofs.laws.sites_can_be_read.Goals as goal

pub returns-clause-undamaged : goal.returns-clause-undamaged
returns-clause-undamaged c files r s file place holds site told =
    ⊎_elim (λ found. c.held_files_load.ensures.undamaged files r file place holds found) (λ unlawful. no_site_unlawful files r s file place holds site unlawful) told

pub returns-clause-formatted : goal.returns-clause-formatted
returns-clause-formatted c files r byte holds told = c.held_files_load.ensures.formatted files r byte holds told
