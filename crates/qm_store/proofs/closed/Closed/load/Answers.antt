use Rattle.qm_store.proofs.Opening.{both_left}
use Rattle.qm_store.proofs.closed.Closed.load.Goals as goal

pub returns-in-Ok-clause-at_rest : goal.returns-in-Ok-clause-at_rest
returns-in-Ok-clause-at_rest g c = λ told.
    let left = c.in-Ok.ensures.left told in
    both_left g.D.Disk.meaning c.in-Ok.files c.read_files.new.disk (c.in-Ok.ensures.found told).is_master left.master left.queue
