use Rattle.std.proofs.Common.{[]}
use Rattle.qm_history.proofs.AgainLemmas.{come_again}
use Rattle.qm_history.proofs.devices.blocks_come_again_behind_marks.Goals as goal

pub returns : goal.returns
returns c steps h = come_again [] steps tt h
