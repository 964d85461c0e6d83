use Rattle.qm_cluster.proofs.Asked.{stood_for}
use Rattle.qm_thread_cases.proofs.cases.LeavingTaskSharedRecorder.work.Goals as goal

pub returns-clause-told : goal.returns-clause-told
returns-clause-told g c = λ told stands.
    stood_for _ _ _ _ c.args.shared.now.manager c.serve.new.self c.serve.result c.serve.ensures g.J.Begins.began told stands
