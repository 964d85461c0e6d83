use Rattle.std.proofs.Common.{Ok, length, ◌<◌, ◌∙◌, ◌≤◌, ℕ, List, refl, sym, ap, subst, IsErrOf}
use Rattle.qm_store.specs.declared.fault.AppendFault.TheVariants as AppendFault
use Rattle.qm_store.specs.Database.{open_disk, spare_of}
use Rattle.qm_store.specs.Recorded.{Recorded, with_body}
use Rattle.qm_model.specs.Outcome.{Accepted}
use Rattle.qm_restore.specs.QueueFile.{IsSiteFile}
use Rattle.qm_image.specs.Image.{system_of}
use Rattle.qm_acting.specs.Asking.{need_with, Writes}
use Rattle.qm_acting.specs.Standing.{disk_of, standing_of}
use Rattle.qm_acting.proofs.Decided.{ready_on}
use Rattle.qm_acting.proofs.Leaving.{leaves_at}
use Rattle.qm_acting.proofs.Spare.{append_keeps}
use Rattle.qm_acting.proofs.Taken.{done_is, full_is}
use Rattle.qm_acting.proofs.manager.Manager.record.Goals as goal

pub append-requires-clause-at_rest : goal.append-requires-clause-at_rest
append-requires-clause-at_rest g c = c.requires.ready.at_rest

pub commit-requires-clause-sound : goal.commit-requires-clause-sound
commit-requires-clause-sound g c =
    let st = standing_of c.args.self.now in
    c.site_files_are_consistent.ensures st.recorded.bodies st.system c.requires.ready.file

pub commit-requires-clause-prepared : goal.commit-requires-clause-prepared
commit-requires-clause-prepared g c = c.requires.prepared

pub returns-in-Ok-clause-answer : goal.returns-in-Ok-clause-answer
returns-in-Ok-clause-answer g c =
    let r = (standing_of c.args.self.now).recorded in
    let told = c.in-Ok.ensures.answer in (
      subst (λ (text : List ℕ). need_with r text ≤ r.says.cap) c.deref.ensures.value told.1,
      c.commit.ensures.done,
      told.2.recorded ∙ ap (with_body r) c.deref.ensures.value,
    )

pub returns-in-Ok-clause-ready : goal.returns-in-Ok-clause-ready
returns-in-Ok-clause-ready g c = λ no.
    let r = (standing_of c.args.self.now).recorded in
    let s = system_of c.commit.new.image in
    let added = c.in-Ok.ensures.answer.2 in
    record {
      file = subst (λ (x : Recorded). IsSiteFile x.bodies s) (sym (added.recorded ∙ ap (with_body r) c.deref.ensures.value))
          (subst (λ (x : Accepted). IsSiteFile (with_body r c.args.decision.body.items).bodies x.system) c.commit.ensures.done c.requires.goes_on);
      at_rest = added.at_rest;
    }

pub returns-in-Ok-clause-writes : goal.returns-in-Ok-clause-writes
returns-in-Ok-clause-writes g c =
    let m = g.D.Disk.meaning in
    let r = (standing_of c.args.self.now).recorded in
    let before = disk_of c.args.self.now in
    let after = open_disk c.append.new.self in
    let writes : Writes m r c.deref.result.now before after = record { any_moment = c.append.ensures.any_moment; others = c.append.ensures.others } in
    subst (λ (text : List ℕ). Writes m r text before after) c.deref.ensures.value writes

pub returns-in-Ok-clause-full : goal.returns-in-Ok-clause-full
returns-in-Ok-clause-full g c = tt

pub returns-in-Err-Full-clause-writes : goal.returns-in-Err-Full-clause-writes
returns-in-Err-Full-clause-writes g c =
    let m = g.D.Disk.meaning in
    let r = (standing_of c.args.self.now).recorded in
    let before = disk_of c.args.self.now in
    let after = open_disk c.append.new.self in
    let writes : Writes m r c.deref.result.now before after = record { any_moment = c.append.ensures.any_moment; others = c.append.ensures.others } in
    subst (λ (text : List ℕ). Writes m r text before after) c.deref.ensures.value writes

pub returns-in-Err-Disk-clause-ready : goal.returns-in-Err-Disk-clause-ready
returns-in-Err-Disk-clause-ready g c = λ no. absurd (no refl)

pub returns-in-Err-Disk-clause-writes : goal.returns-in-Err-Disk-clause-writes
returns-in-Err-Disk-clause-writes g c =
    let m = g.D.Disk.meaning in
    let r = (standing_of c.args.self.now).recorded in
    let before = disk_of c.args.self.now in
    let after = open_disk c.append.new.self in
    let writes : Writes m r c.deref.result.now before after = record { any_moment = c.append.ensures.any_moment; others = c.append.ensures.others } in
    subst (λ (text : List ℕ). Writes m r text before after) c.deref.ensures.value writes

pub returns-in-Err-Disk-clause-full : goal.returns-in-Err-Disk-clause-full
returns-in-Err-Disk-clause-full g c = tt

pub append-requires-clause-room : goal.append-requires-clause-room
append-requires-clause-room g c =
    subst (λ (text : List ℕ). length text < spare_of c.args.self.now.store) (sym c.deref.ensures.value) c.requires.room

pub returns-in-Err-Full-clause-answer : goal.returns-in-Err-Full-clause-answer
returns-in-Err-Full-clause-answer g c =
    let st = standing_of c.args.self.now in
    let e = rw c.in-Err-Full.field-0-is at c.in-Err-Full.ensures in
    (e.answer.1, e.answer.2 ∙ ap (need_with st.recorded) c.deref.ensures.value, e.answer.3, ap (λ (x : Recorded). record { system = st.system; recorded = x }) e.answer.4.recorded)

pub returns-in-Err-Full-clause-ready : goal.returns-in-Err-Full-clause-ready
returns-in-Err-Full-clause-ready g c = λ no.
    let st = standing_of c.args.self.now in
    let e = rw c.in-Err-Full.field-0-is at c.in-Err-Full.ensures in
    ready_on g.D.Disk.meaning st _ (disk_of c.args.self.now) (open_disk c.append.new.self) (ap (λ (x : Recorded). record { system = st.system; recorded = x }) e.answer.4.recorded) e.answer.4.disk c.requires.ready

pub returns-in-Err-Full-clause-full : goal.returns-in-Err-Full-clause-full
returns-in-Err-Full-clause-full g c =
    let e = rw c.in-Err-Full.field-0-is at c.in-Err-Full.ensures in
    e.answer.4.disk

pub returns-in-Err-Disk-clause-answer : goal.returns-in-Err-Disk-clause-answer
returns-in-Err-Disk-clause-answer g c =
    let st = standing_of c.args.self.now in
    let e = rw c.in-Err-Disk.field-0-is at c.in-Err-Disk.ensures in
    (subst (λ (text : List ℕ). need_with st.recorded text ≤ st.recorded.says.cap) c.deref.ensures.value e.answer.1, ap (λ (x : Recorded). record { system = st.system; recorded = x }) e.answer.2)

-- ---- the count of faults, and the other queue file

appended_is : (done : Unit {0}) → IsErrOf {T = Unit {0}} (Ok done) AppendFault.Disk → ⊥
appended_is done is = cc

pub returns-in-Ok-clause-leaves : goal.returns-in-Ok-clause-leaves
returns-in-Ok-clause-leaves g c = record {
  faults = record { fault = λ is. absurd (done_is c.commit.result is); quiet = λ none. c.in-Ok.ensures.faults.quiet (appended_is c.in-Ok.field-0) };
  spare = λ tells.
      append_keeps g.D.Disk.meaning (standing_of c.args.self.now).recorded (disk_of c.args.self.now) (open_disk c.append.new.self) (c.requires.ready.at_rest tells).holds c.append.ensures.others;
}

pub returns-in-Err-Full-clause-leaves : goal.returns-in-Err-Full-clause-leaves
returns-in-Err-Full-clause-leaves g c =
    let e = rw c.in-Err-Full.field-0-is at c.in-Err-Full.ensures in
    leaves_at g.D.Disk.meaning (disk_of c.args.self.now) (open_disk c.append.new.self) _ e.answer.4.disk (full_is _ _)

pub returns-in-Err-Disk-clause-leaves : goal.returns-in-Err-Disk-clause-leaves
returns-in-Err-Disk-clause-leaves g c =
    let e = rw c.in-Err-Disk.field-0-is at c.in-Err-Disk.ensures in
    record {
      faults = record { fault = λ is. e.faults.fault refl; quiet = λ none. absurd (none refl) };
      spare = λ tells.
          append_keeps g.D.Disk.meaning (standing_of c.args.self.now).recorded (disk_of c.args.self.now) (open_disk c.append.new.self) (c.requires.ready.at_rest tells).holds c.append.ensures.others;
    }
