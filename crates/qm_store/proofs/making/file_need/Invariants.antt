use Rattle.std.proofs.Common.{◌≡◌, take}
use Rattle.qm_glog.specs.Bodies.{contents}
use Rattle.qm_store.specs.Making.{need_for}
use Rattle.qm_store.proofs.making.file_need.Given as goal

abbrev pub invariant-loop-body : goal.invariant-loop-body
invariant-loop-body l = l.need ≡ need_for (contents (take l.body-index l.bodies))
