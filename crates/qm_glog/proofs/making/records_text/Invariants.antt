use Rattle.std.proofs.Common.{◌≡◌, take}
use Rattle.qm_glog.specs.Records.{text}
use Rattle.qm_glog.specs.Bodies.{contents}
use Rattle.qm_glog.proofs.making.records_text.Given as goal

abbrev pub invariant-loop-row : goal.invariant-loop-row
invariant-loop-row l = l.text.items ≡ text (contents (take l.row-index l.rows))
