use Rattle.std.proofs.Common.{length}
use Rattle.qm_disk.proofs.Moments.{started, goes_on, fewer_left}
use Rattle.qm_glog.specs.Moments.{TornWrite}
use Rattle.qm_glog.proofs.OneWrite.{before_write, after_write}
use Rattle.qm_glog.proofs.through.write_through.Goals as goal

pub returns-in_err-write-clause-any_moment : goal.returns-in_err-write-clause-any_moment
returns-in_err-write-clause-any_moment g c = λ told.
    let m = g.D.Disk.meaning in
    let old = c.args.disk.now in
    let n = length c.args.bytes.now in
    let P = TornWrite (m.may_leave old) c.args.file c.args.at n (m.seen old c.args.file) in
    let only = c.requires.settled told in
    let begun = started m old P (λ crashed left. before_write m c.args.file c.requires.file c.args.at n old only crashed (g.met.D.Disk.only_now old crashed left)) in
    goes_on m old old c.write.new.self P begun c.write.ensures.time (after_write m c.args.file c.requires.file c.args.at n old only c.write.new.self c.write.ensures.crash c.write.ensures.others)

pub returns-clause-any_moment : goal.returns-clause-any_moment
returns-clause-any_moment g c = λ told.
    let m = g.D.Disk.meaning in
    let old = c.args.disk.now in
    let n = length c.args.bytes.now in
    let P = TornWrite (m.may_leave old) c.args.file c.args.at n (m.seen old c.args.file) in
    let only = c.requires.settled told in
    let begun = started m old P (λ crashed left. before_write m c.args.file c.requires.file c.args.at n old only crashed (g.met.D.Disk.only_now old crashed left)) in
    let left_by_write = after_write m c.args.file c.requires.file c.args.at n old only c.write.new.self c.write.ensures.crash c.write.ensures.others in
    let wrote = goes_on m old old c.write.new.self P begun c.write.ensures.time left_by_write in
    goes_on m old c.write.new.self c.sync.new.self P wrote c.sync.ensures.time (λ crashed left.
    left_by_write crashed (fewer_left m c.args.file c.write.new.self c.sync.new.self c.sync.ensures.crash c.sync.ensures.others crashed left))
