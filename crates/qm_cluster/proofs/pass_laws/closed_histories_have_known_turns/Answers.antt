use Rattle.qm_cluster.proofs.Owning.{own_of_each}
use Rattle.qm_cluster.proofs.pass_laws.closed_histories_have_known_turns.Goals as goal

pub returns : goal.returns
returns c = own_of_each
