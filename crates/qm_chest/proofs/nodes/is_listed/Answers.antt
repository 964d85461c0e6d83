use Rattle.std.proofs.Common.{List, ◌∙◌, ap, map, sym}
use Rattle.qm_history.specs.Common.{Node, is_among, node_at}
use Rattle.qm_chest.proofs.Lists.{in_cluster, listed_all, listed_in, not_empty, some_listed}
use Rattle.qm_chest.proofs.nodes.is_listed.Goals as goal

pub returns-then-is_empty : goal.returns-then-is_empty
returns-then-is_empty c = listed_all c.args.nodes.now c.args.names.now c.args.node c.is_empty.result c.requires c.is_empty.ensures c.if-is_empty.true

pub returns-else-is_empty : goal.returns-else-is_empty
returns-else-is_empty c =
    let nodes = c.args.nodes.now in
    let names = c.args.names.now in
    let x = node_at c.args.node nodes in
    c.is_among.ensures ∙ ap (is_among names) c.name_of.ensures
    ∙ sym (ap (λ (l : List _). is_among l x) (some_listed nodes names (not_empty names c.is_empty.result c.is_empty.ensures c.if-is_empty.false))
    ∙ listed_in names (map (λ (n : Node). n.name) nodes) x (in_cluster c.args.node nodes c.requires))
