use Rattle.qm_model.specs.Find.{queue_named}
use Rattle.qm_parts.proofs.RowJobs.{all_jobs}
use Rattle.qm_parts.proofs.parts.Parts.ready.Goals as goal

pub returns-in-Some-clause-jobs : goal.returns-in-Some-clause-jobs
returns-in-Some-clause-jobs c s =
    all_jobs s c.args.self.now (queue_named c.args.name.now c.args.self.now.queues) c.in-Some.row.now c.see_entries.ensures c.len.ensures.in_order c.in-Some.ensures.jobs
