use Rattle.qm_history.proofs.CoverLemmas.{all_handed_behind, came_behind_mark}
use Rattle.qm_history.proofs.printed.no_block_is_left_out_of_a_stretch.Goals as goal

pub returns-clause-handed : goal.returns-clause-handed
returns-clause-handed c = all_handed_behind

pub returns-clause-came : goal.returns-clause-came
returns-clause-came c = came_behind_mark
