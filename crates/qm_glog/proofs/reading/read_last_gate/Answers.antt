use Rattle.std.proofs.Common.{refl, drop, length, ◌<◌, arith, length-drop}
use Rattle.qm_glog.proofs.Heads.{last_gate_broken}
use Rattle.qm_glog.proofs.reading.read_last_gate.Goals as goal

pub returns-then-gate-eq1-clause-head : goal.returns-then-gate-eq1-clause-head
returns-then-gate-eq1-clause-head g c = λ told.
    let rest = drop c.args.place (g.D.Disk.meaning.seen c.args.disk.now c.args.file) in
    let size = c.requires.size told in
    let short : length (drop c.args.place (g.D.Disk.meaning.seen c.args.disk.now c.args.file)) < 5 =
    omega (arith, size, length-drop c.args.place (g.D.Disk.meaning.seen c.args.disk.now c.args.file)) in
    (refl, refl, last_gate_broken rest c.read.new.into (c.in_ok-read.ensures.bytes told) c.if-gate-eq1.true short)
