use Rattle.std.proofs.Common.{◌∙◌, ap}
use Rattle.qm_cluster.specs.Driving.{node_end}
use Rattle.qm_history.specs.Ends.{end_of_node, worse}
use Rattle.qm_cluster.specs.Gathered.{text_left}
use Rattle.qm_cluster.specs.Ends.{serving_end}
use Rattle.qm_cluster.proofs.Worst.{worst_from}
use Rattle.qm_cluster.proofs.cluster_ending.+worst_end.Goals as goal

pub returns-in-len1-up : goal.returns-in-len1-up
returns-in-len1-up t c =
    c.worse.ensures ∙ ap (λ s. worse s (serving_end c.worst_end.result)) c.end_of_node.ensures ∙ ap (worse (end_of_node (node_end c.first-item.result.end))) c.worst_end.ensures
    ∙ worst_from text_left c.args.texts.now c.first-item.result c.in-len1-up.len_at_least c.first-item.is
