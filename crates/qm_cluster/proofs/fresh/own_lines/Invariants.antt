use Rattle.std.proofs.Common.{◌≡◌, take}
use Rattle.qm_script.specs.ClusterLines.{user_lines_view}
use Rattle.qm_cluster.specs.Fresh.{each_lines, own_view}
use Rattle.qm_cluster.proofs.fresh.own_lines.Given as goal

-- those of the nodes so far
abbrev pub invariant-names : goal.invariant-names
invariant-names l = own_view l.own.items ≡ each_lines (user_lines_view l.lines) (take l.name-index l.names)
