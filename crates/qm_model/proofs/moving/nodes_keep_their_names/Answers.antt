use Rattle.qm_model.proofs.MovingLemmas.{names_are_kept, nodes_are_kept}
use Rattle.qm_model.proofs.moving.nodes_keep_their_names.Goals as goal

pub returns-clause-names : goal.returns-clause-names
returns-clause-names c = names_are_kept

pub returns-clause-built : goal.returns-clause-built
returns-clause-built c = nodes_are_kept
