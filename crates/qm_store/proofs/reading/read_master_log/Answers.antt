use Rattle.qm_store.proofs.Loading.{master_fault_handed_on}
use Rattle.qm_store.proofs.reading.read_master_log.Goals as goal

pub returns-in_err-log-clause-found : goal.returns-in_err-log-clause-found
returns-in_err-log-clause-found g c = λ told.
    master_fault_handed_on (g.D.Disk.meaning.seen c.args.disk.now 0) c.in_err-log.field-0.0 c.from_residual.result c.from_residual.ensures.1 (c.in_err-log.ensures.found told)
