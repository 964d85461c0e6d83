use Rattle.qm_script.proofs.Clusters.{make_a_site}
use Rattle.qm_script.proofs.served.named_nodes_make_a_site.Goals as goal

pub returns : goal.returns
returns c = make_a_site
