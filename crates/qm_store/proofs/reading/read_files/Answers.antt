use Rattle.qm_store.proofs.Loading.{files_not_read, master_is_asked_first, live_not_read, files_read, files_left}
use Rattle.qm_store.proofs.reading.read_files.Goals as goal

pub returns-in_err-master-clause-found : goal.returns-in_err-master-clause-found
returns-in_err-master-clause-found g c = λ told.
    let files = g.D.Disk.meaning.seen c.args.disk.now in
    files_not_read files c.in_err-master.field-0.0 c.from_residual.result c.from_residual.ensures.1 (master_is_asked_first files c.in_err-master.field-0.0 (c.in_err-master.ensures.found told))

pub returns-in_err-queue-clause-found : goal.returns-in_err-queue-clause-found
returns-in_err-queue-clause-found g c = λ told.
    live_not_read g.D.Disk.meaning c.args.disk.now c.read_master_file.new.disk c.in_ok-master.ensures.looks _ _ c.in_err-queue.field-0.0 c.from_residual-in_err-queue.result (c.in_ok-master.ensures.found told)
    (c.in_err-queue.ensures.found told) c.from_residual-in_err-queue.ensures.1

pub returns-clause-found : goal.returns-clause-found
returns-clause-found g c = λ told.
    files_read g.D.Disk.meaning c.args.disk.now c.read_master_file.new.disk c.in_ok-master.ensures.looks _ _ _ (c.in_ok-master.ensures.found told) (c.in_ok-queue.ensures.found told)

pub returns-clause-left : goal.returns-clause-left
returns-clause-left g c = λ told.
    files_left g.D.Disk.meaning c.read_master_file.new.disk c.read_live_file.new.disk _ (c.in_ok-master.ensures.left told) c.in_ok-queue.ensures.looks (c.in_ok-queue.ensures.left told)
