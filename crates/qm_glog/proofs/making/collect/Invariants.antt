use Rattle.std.proofs.Common.{◌≡◌, take}
use Rattle.qm_glog.specs.Bodies.{contents, list_of}
use Rattle.qm_glog.proofs.making.collect.Given as goal

abbrev pub invariant-loop-row : goal.invariant-loop-row
invariant-loop-row l = list_of l.bodies ≡ contents (take l.row-index l.rows)
