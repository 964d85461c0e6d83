use Rattle.qm_disk.proofs.Moments.{changes_not, changes_on}
use Rattle.qm_glog.proofs.through.replace.Goals as goal

pub returns-in_err-cut-clause-changes : goal.returns-in_err-cut-clause-changes
returns-in_err-cut-clause-changes g c =
    let m = g.D.Disk.meaning in
    let old = c.args.disk.now in
    changes_on m c.args.file old old c.cut.new.self (changes_not m c.args.file old (g.met.D.Disk.only_now old)) c.cut.ensures.others c.cut.ensures.time

pub returns-in_err-write-clause-changes : goal.returns-in_err-write-clause-changes
returns-in_err-write-clause-changes g c =
    let m = g.D.Disk.meaning in
    let old = c.args.disk.now in
    let cut = changes_on m c.args.file old old c.cut.new.self (changes_not m c.args.file old (g.met.D.Disk.only_now old)) c.cut.ensures.others c.cut.ensures.time in
    changes_on m c.args.file old c.cut.new.self c.write.new.self cut c.write.ensures.others c.write.ensures.time

pub returns-clause-changes : goal.returns-clause-changes
returns-clause-changes g c =
    let m = g.D.Disk.meaning in
    let old = c.args.disk.now in
    let cut = changes_on m c.args.file old old c.cut.new.self (changes_not m c.args.file old (g.met.D.Disk.only_now old)) c.cut.ensures.others c.cut.ensures.time in
    let written = changes_on m c.args.file old c.cut.new.self c.write.new.self cut c.write.ensures.others c.write.ensures.time in
    changes_on m c.args.file old c.write.new.self c.sync.new.self written c.sync.ensures.others c.sync.ensures.time
