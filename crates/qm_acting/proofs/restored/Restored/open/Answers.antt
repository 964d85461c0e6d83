use Rattle.std.proofs.Common.{refl, sym, ap, subst}
use Rattle.qm_store.specs.Database.{open_disk}
use Rattle.qm_store.specs.Recorded.{Recorded}
use Rattle.qm_restore.specs.QueueFile.{IsSiteFile}
use Rattle.qm_image.specs.Image.{system_of}
use Rattle.qm_acting.specs.Standing.{restored_disk, restored_standing}
use Rattle.qm_acting.proofs.Spare.{opening_keeps}
use Rattle.qm_acting.proofs.restored.Restored.«open».Goals as goal

pub returns-in-Ok-clause-answer : goal.returns-in-Ok-clause-answer
returns-in-Ok-clause-answer g c =
    let s = system_of c.args.self.image in
    let opened = c.in-Ok.ensures.answer.1 in
    record {
      master_room = c.in-Ok.ensures.answer.0;
      standing = ap (λ (r : Recorded). record { system = s; recorded = r }) opened.recorded;
      ready = record {
        file = subst (λ (r : Recorded). IsSiteFile r.bodies s) (sym opened.recorded) c.requires.restored.file;
        at_rest = λ told. opened.at_rest told (c.requires.early told);
      };
      image = refl;
      spare = opened.spare;
    }

pub returns-in-Ok-clause-any_moment : goal.returns-in-Ok-clause-any_moment
returns-in-Ok-clause-any_moment g c = λ told. c.in-Ok.ensures.any_moment told (c.requires.early told)

pub returns-in-Err-clause-any_moment : goal.returns-in-Err-clause-any_moment
returns-in-Err-clause-any_moment g c = λ told. c.in-Err.ensures.any_moment told (c.requires.early told)

pub returns-in-Ok-clause-leaves : goal.returns-in-Ok-clause-leaves
returns-in-Ok-clause-leaves g c = record {
  faults = c.in-Ok.ensures.faults;
  spare = λ told.
      opening_keeps g.D.Disk.meaning g.met.D.Disk.counts_now (λ disk f le. g.met.D.Disk.reads_a_crash_state disk f told le) (restored_standing c.args.self).recorded c.args.tried c.args.node
      (restored_disk c.args.self) (open_disk c.in-Ok.store) (c.requires.restored.at_rest told).holds (c.in-Ok.ensures.any_moment told (c.requires.early told)) c.in-Ok.ensures.others;
}

pub returns-in-Err-clause-leaves : goal.returns-in-Err-clause-leaves
returns-in-Err-clause-leaves g c = record {
  faults = c.in-Err.ensures.faults;
  spare = λ told.
      opening_keeps g.D.Disk.meaning g.met.D.Disk.counts_now (λ disk f le. g.met.D.Disk.reads_a_crash_state disk f told le) (restored_standing c.args.self).recorded c.args.tried c.args.node
      (restored_disk c.args.self) _ (c.requires.restored.at_rest told).holds (c.in-Err.ensures.any_moment told (c.requires.early told)) c.in-Err.ensures.others;
}
