use Rattle.qm_disk.proofs.Moments.{looks_by_sync, looks_by_all}
use Rattle.qm_glog.proofs.opening.synced_size.Goals as goal

pub returns-clause-looks : goal.returns-clause-looks
returns-clause-looks g c =
    let m = g.D.Disk.meaning in
    let old = c.args.disk.now in
    looks_by_all m old c.sync.new.self c.size.new.self
    (looks_by_sync m c.args.file old c.sync.new.self (g.met.D.Disk.only_now old) c.sync.ensures.reads c.sync.ensures.crash c.sync.ensures.others c.sync.ensures.time)
    c.size.ensures.kept c.size.ensures.time
