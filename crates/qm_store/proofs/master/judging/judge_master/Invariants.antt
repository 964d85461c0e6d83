use Rattle.std.proofs.Common.{take}
use Rattle.qm_glog.specs.Log.{bodies_of}
use Rattle.qm_store.specs.MasterJudging.{IsMaster}
use Rattle.qm_store.specs.MasterRecords.{state_of}
use Rattle.qm_store.proofs.master.judging.judge_master.Given as goal

abbrev pub invariant-loop-index : goal.invariant-loop-index
invariant-loop-index l = IsMaster (take l.index (bodies_of l.log)) (state_of l.says)
