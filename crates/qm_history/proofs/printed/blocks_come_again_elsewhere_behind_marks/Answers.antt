use Rattle.std.proofs.Common.{[]}
use Rattle.qm_history.proofs.CoverLemmas.{all_elsewhere}
use Rattle.qm_history.proofs.printed.blocks_come_again_elsewhere_behind_marks.Goals as goal

pub returns : goal.returns
returns c steps h others h_too = all_elsewhere [] steps others tt h h_too
