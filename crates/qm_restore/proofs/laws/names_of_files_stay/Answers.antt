use Rattle.qm_restore.proofs.Consistent.{names_stay}
use Rattle.qm_restore.proofs.laws.names_of_files_stay.Goals as goal

pub returns : goal.returns
returns c = names_stay c.nodes_keep_their_names.ensures.names
