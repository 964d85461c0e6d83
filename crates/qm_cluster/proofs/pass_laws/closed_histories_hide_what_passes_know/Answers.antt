use Rattle.qm_cluster.proofs.Hiding.{driven_hides, hidden_known}
use Rattle.qm_cluster.proofs.pass_laws.closed_histories_hide_what_passes_know.Goals as goal

pub returns-clause-closed : goal.returns-clause-closed
returns-clause-closed c = hidden_known

pub returns-clause-driven : goal.returns-clause-driven
returns-clause-driven c = driven_hides
