use Rattle.std.proofs.Common.{◌≡◌, ◌-◌, ◌≤◌, ◌++◌, drop, IsTrue}
use Rattle.qm_disk.specs.Disk.{OnlyLooks, IsQuiet}
use Rattle.qm_glog.specs.Records.{text, size_of, Fit}
use Rattle.qm_glog.specs.Bodies.{list_of}
use Rattle.qm_glog.proofs.reading.read_records.Given as goal

abbrev pub invariant-records : goal.invariant-records
invariant-records g l =
    let m = g.D.Disk.meaning in
    let seen = m.seen l.fn.disk l.file in
    record {
      place : l.place ≡ size_of (list_of l.bodies);
      within : l.place ≤ l.size;
      split : IsTrue m.tells → seen ≡ text (list_of l.bodies) ++ drop l.place seen;
      fit : IsTrue m.tells → Fit (list_of l.bodies);
      looks : OnlyLooks m l.fn.disk l.disk;
      quiet : IsQuiet m l.fn.disk l.disk;
    }

abbrev pub decreases-records : goal.decreases-records
decreases-records g l = l.size - l.place
