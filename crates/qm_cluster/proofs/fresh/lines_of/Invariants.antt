use Rattle.std.proofs.Common.{◌≡◌, take}
use Rattle.qm_history.specs.Script.{lines_of}
use Rattle.qm_script.specs.ClusterLines.{user_lines_view}
use Rattle.qm_cluster.proofs.fresh.lines_of.Given as goal

-- those of the lines so far
abbrev pub invariant-lines : goal.invariant-lines
invariant-lines l = user_lines_view l.own.items ≡ lines_of l.name (user_lines_view (take l.line-index l.lines))
