use Rattle.std.proofs.Common.{◌∙◌, arith}
use Rattle.qm_show.proofs.Blanks.{blanks_cut}
use Rattle.qm_show.proofs.columns.blanks_beside.Goals as goal

pub returns : goal.returns
returns c = c.range.ensures.value ∙ blanks_cut _ _ c.saturating_sub.ensures (omega (arith, c.saturating_sub.ensures, c.requires))
