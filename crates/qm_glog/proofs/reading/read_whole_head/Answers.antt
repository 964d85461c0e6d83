use Rattle.std.proofs.Common.{refl, drop, length, ◌+◌, ◌<◌, ◌≤◌, arith, length-drop}
use Rattle.qm_glog.proofs.Heads.{open_head, broken_head}
use Rattle.qm_glog.proofs.reading.read_whole_head.Goals as goal

pub returns-then-from-size-clause-head : goal.returns-then-from-size-clause-head
returns-then-from-size-clause-head g c = λ told.
    let seen = g.D.Disk.meaning.seen c.args.disk.now c.args.file in
    let size = c.requires.size told in
    let long : 5 ≤ length (drop c.args.place (g.D.Disk.meaning.seen c.args.disk.now c.args.file)) = omega (arith, size, length-drop c.args.place (g.D.Disk.meaning.seen c.args.disk.now c.args.file)) in
    let short : length (drop c.args.place (g.D.Disk.meaning.seen c.args.disk.now c.args.file)) < 5 + c.length_in-length.result = omega (arith, size, length-drop c.args.place (g.D.Disk.meaning.seen c.args.disk.now c.args.file)) in
    (refl, refl, broken_head (drop c.args.place seen) c.read.new.into c.length_in-length.result (c.in_ok-read.ensures.bytes told) long c.if-head-ne1.false c.length_in-length.ensures.value short)

pub returns-clause-head : goal.returns-clause-head
returns-clause-head g c = λ told.
    let seen = g.D.Disk.meaning.seen c.args.disk.now c.args.file in
    let size = c.requires.size told in
    let long : 5 ≤ length (drop c.args.place (g.D.Disk.meaning.seen c.args.disk.now c.args.file)) = omega (arith, size, length-drop c.args.place (g.D.Disk.meaning.seen c.args.disk.now c.args.file)) in
    (c.length_in-length.type_inv, drop 5 (drop c.args.place seen), open_head (drop c.args.place seen) c.read.new.into c.length_in-length.result (c.in_ok-read.ensures.bytes told) long c.if-head-ne1.false c.length_in-length.ensures.spelled)
