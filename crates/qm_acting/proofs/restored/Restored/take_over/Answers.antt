use Rattle.std.proofs.Common.{◌≡◌, ◌∙◌, ◌≤◌, ◌<◌, ◌^◌, length, sym, ap, subst}
use Rattle.qm_store.specs.Database.{disk_of as closed_disk}
use Rattle.qm_store.specs.Opening.{next_need}
use Rattle.qm_store.specs.Recorded.{epoch_behind}
use Rattle.qm_store.specs.declared.files.TheConstants.{MASTER_CAP}
use Rattle.qm_image.specs.Preparing.{IsPrepared}
use Rattle.qm_image.specs.declared.image.Image.{Image}
use Rattle.qm_acting.specs.Asking.{text_of}
use Rattle.qm_acting.specs.Standing.{Standing, standing_of, disk_of, restored_standing, restored_disk}
use Rattle.qm_acting.specs.Taking.{in_next, FailLeaves, TakesNot}
use Rattle.qm_acting.proofs.Decided.{ready_on}
use Rattle.qm_acting.proofs.Leaving.{leaves_at, leaves_from, leaves_on, leaves_so, leaves_to}
use Rattle.qm_acting.proofs.Taken.{epoch_disk, epoch_moments, moments_before, site_in_next, does_in_next, taken_moments, record_moments, record_told, record_disk, done_is}
use Rattle.qm_acting.proofs.restored.Restored.take_over.Goals as goal

pub decide-requires-clause-restored : goal.decide-requires-clause-restored
decide-requires-clause-restored g c = c.requires.restored

pub decide-requires-clause-can : goal.decide-requires-clause-can
decide-requires-clause-can g c = c.requires.can

pub decide-requires-clause-accepted : goal.decide-requires-clause-accepted
decide-requires-clause-accepted g c = c.requires.accepted

pub returns-in_default-clause-answer : goal.returns-in_default-clause-answer
returns-in_default-clause-answer g c = c.close.ensures ∙ c.decide.ensures.disk

pub returns-in_default-clause-any_moment : goal.returns-in_default-clause-any_moment
returns-in_default-clause-any_moment g c = λ told. tt

pub open-requires-clause-tried : goal.open-requires-clause-tried
open-requires-clause-tried g c = c.requires.tried

pub open-requires-clause-restored : goal.open-requires-clause-restored
open-requires-clause-restored g c =
    ready_on g.D.Disk.meaning (restored_standing c.args.self) (restored_standing c.decide.new.self) (restored_disk c.args.self) (restored_disk c.decide.new.self)
    c.decide.ensures.standing c.decide.ensures.disk c.requires.restored

pub open-requires-clause-early : goal.open-requires-clause-early
open-requires-clause-early g c = λ tells. subst (λ (x : Standing). epoch_behind x.recorded c.args.tried < 2 ^ 62) (sym c.decide.ensures.standing) (c.requires.early tells)

pub record-requires-clause-ready : goal.record-requires-clause-ready
record-requires-clause-ready g c = c.in-Ok-open.ensures.answer.ready

pub record-requires-clause-prepared : goal.record-requires-clause-prepared
record-requires-clause-prepared g c =
    subst (λ (x : Image). IsPrepared x c.in-Ok.decision.prepared) (sym c.in-Ok-open.ensures.answer.image) c.in-Ok.ensures.decides.prepared

pub record-requires-clause-room : goal.record-requires-clause-room
record-requires-clause-room g c =
    subst (λ n. length c.in-Ok.decision.body.items < n) (sym c.in-Ok-open.ensures.answer.spare) c.in-Ok.ensures.room

pub returns-in-Err-clause-any_moment : goal.returns-in-Err-clause-any_moment
returns-in-Err-clause-any_moment g c = λ told.
    let m = g.D.Disk.meaning in
    let st = restored_standing c.args.self in
    epoch_moments m st.recorded (in_next st c.args.tried c.args.node).recorded (text_of c.args.moment c.args.node c.args.request.now) 0 (restored_disk c.args.self) (closed_disk c.in-Err.closed)
    c.in-Err.fault c.opening_fault.result c.opening_fault.ensures
    (moments_before m 0 c.args.tried c.args.node (restored_disk c.args.self) (restored_disk c.decide.new.self) (closed_disk c.in-Err.closed) st (restored_standing c.decide.new.self)
    c.decide.ensures.disk c.decide.ensures.standing (c.in-Err.ensures.any_moment told))

pub record-requires-clause-goes_on : goal.record-requires-clause-goes_on
record-requires-clause-goes_on g c =
    let st = restored_standing c.args.self in
    let mid = standing_of c.in-Ok-open.manager in
    let is : standing_of c.in-Ok-open.manager ≡ in_next st c.args.tried c.args.node =
    c.in-Ok-open.ensures.answer.standing ∙ ap (λ (x : Standing). in_next x c.args.tried c.args.node) c.in-Ok.ensures.standing in
    site_in_next g.D.Disk.meaning c.args.tried c.args.moment c.args.node c.args.request.now st mid is c.decide.new.self.image c.in-Ok.decision c.requires.can c.in-Ok.ensures.decides c.requires.restored.file

pub returns-in-Ok-record-clause-answer : goal.returns-in-Ok-record-clause-answer
returns-in-Ok-record-clause-answer g c =
    let st = restored_standing c.args.self in
    let mid = standing_of c.in-Ok-open.manager in
    let is : standing_of c.in-Ok-open.manager ≡ in_next st c.args.tried c.args.node =
    c.in-Ok-open.ensures.answer.standing ∙ ap (λ (x : Standing). in_next x c.args.tried c.args.node) c.in-Ok.ensures.standing in
    record {
      master_room = subst (λ (x : Standing). next_need x.recorded c.args.tried c.args.node ≤ MASTER_CAP) c.in-Ok.ensures.standing c.in-Ok-open.ensures.answer.master_room;
      does = does_in_next g.D.Disk.meaning c.args.tried c.args.moment c.args.node c.args.request.now st mid is c.decide.new.self.image c.in-Ok.decision c.requires.can c.in-Ok.ensures.decides (standing_of c.record.new.self) c.in-Ok-record.reply c.in-Ok-record.ensures.answer;
      ready = c.in-Ok-record.ensures.ready (done_is c.in-Ok-record.reply);
    }

pub returns-in-Ok-record-clause-any_moment : goal.returns-in-Ok-record-clause-any_moment
returns-in-Ok-record-clause-any_moment g c = λ told.
    let m = g.D.Disk.meaning in
    let st = restored_standing c.args.self in
    let mid = standing_of c.in-Ok-open.manager in
    let is : standing_of c.in-Ok-open.manager ≡ in_next st c.args.tried c.args.node =
    c.in-Ok-open.ensures.answer.standing ∙ ap (λ (x : Standing). in_next x c.args.tried c.args.node) c.in-Ok.ensures.standing in
    taken_moments m c.args.tried c.args.moment c.args.node c.args.request.now st mid is c.decide.new.self.image c.in-Ok.decision c.requires.can c.in-Ok.ensures.decides (restored_disk c.args.self) (disk_of c.in-Ok-open.manager) (disk_of c.record.new.self) 0 told
    (moments_before m 0 c.args.tried c.args.node (restored_disk c.args.self) (restored_disk c.decide.new.self) (disk_of c.in-Ok-open.manager) st (restored_standing c.decide.new.self)
    c.decide.ensures.disk c.decide.ensures.standing (c.in-Ok-open.ensures.any_moment told)) c.in-Ok-record.ensures.writes

pub returns-in-Err-record-clause-answer : goal.returns-in-Err-record-clause-answer
returns-in-Err-record-clause-answer g c =
    let m = g.D.Disk.meaning in
    let st = restored_standing c.args.self in
    let mid = standing_of c.in-Ok-open.manager in
    let is : standing_of c.in-Ok-open.manager ≡ in_next st c.args.tried c.args.node =
    c.in-Ok-open.ensures.answer.standing ∙ ap (λ (x : Standing). in_next x c.args.tried c.args.node) c.in-Ok.ensures.standing in
    subst (λ d. TakesNot m c.args.tried c.args.moment c.args.node c.args.request.now st (restored_disk c.args.self) d c.record_fault.result) (sym c.close-in-Err-record.ensures)
    (record_told m c.args.tried c.args.moment c.args.node c.args.request.now st mid is c.decide.new.self.image c.in-Ok.decision c.requires.can c.in-Ok.ensures.decides (restored_disk c.args.self) (disk_of c.in-Ok-open.manager) (disk_of c.record.new.self)
    c.in-Err-record.fault c.record_fault.result c.record_fault.ensures (standing_of c.record.new.self)
    (subst (λ (x : Standing). next_need x.recorded c.args.tried c.args.node ≤ MASTER_CAP) c.in-Ok.ensures.standing c.in-Ok-open.ensures.answer.master_room)
    c.in-Ok-open.ensures.answer.ready c.in-Err-record.ensures.answer c.in-Err-record.ensures.full)

pub returns-in-Err-record-clause-any_moment : goal.returns-in-Err-record-clause-any_moment
returns-in-Err-record-clause-any_moment g c = λ told.
    let m = g.D.Disk.meaning in
    let st = restored_standing c.args.self in
    let mid = standing_of c.in-Ok-open.manager in
    let is : standing_of c.in-Ok-open.manager ≡ in_next st c.args.tried c.args.node =
    c.in-Ok-open.ensures.answer.standing ∙ ap (λ (x : Standing). in_next x c.args.tried c.args.node) c.in-Ok.ensures.standing in
    subst (λ d. FailLeaves m st.recorded (in_next st c.args.tried c.args.node).recorded (text_of c.args.moment c.args.node c.args.request.now) (restored_disk c.args.self) d c.record_fault.result) (sym c.close-in-Err-record.ensures)
    (record_moments m c.args.tried c.args.moment c.args.node c.args.request.now st mid is c.decide.new.self.image c.in-Ok.decision c.requires.can c.in-Ok.ensures.decides (restored_disk c.args.self) (disk_of c.in-Ok-open.manager) (disk_of c.record.new.self)
    c.in-Err-record.fault c.record_fault.result c.record_fault.ensures 0 told
    (moments_before m 0 c.args.tried c.args.node (restored_disk c.args.self) (restored_disk c.decide.new.self) (disk_of c.in-Ok-open.manager) st (restored_standing c.decide.new.self)
    c.decide.ensures.disk c.decide.ensures.standing (c.in-Ok-open.ensures.any_moment told)) c.in-Err-record.ensures.writes c.in-Err-record.ensures.full)

-- ---- the count of faults, and the other queue file

pub returns-in_default-clause-leaves : goal.returns-in_default-clause-leaves
returns-in_default-clause-leaves g c =
    leaves_at g.D.Disk.meaning (restored_disk c.args.self) (closed_disk c.close.result) _ (c.close.ensures ∙ c.decide.ensures.disk) (λ is. is)

pub returns-in-Err-clause-leaves : goal.returns-in-Err-clause-leaves
returns-in-Err-clause-leaves g c =
    let m = g.D.Disk.meaning in
    epoch_disk m (restored_disk c.args.self) (closed_disk c.in-Err.closed) c.in-Err.fault c.opening_fault.result c.opening_fault.ensures
    (leaves_from m (restored_disk c.args.self) (restored_disk c.decide.new.self) (closed_disk c.in-Err.closed) _ c.decide.ensures.disk c.in-Err.ensures.leaves)

pub returns-in-Ok-record-clause-leaves : goal.returns-in-Ok-record-clause-leaves
returns-in-Ok-record-clause-leaves g c =
    let m = g.D.Disk.meaning in
    let mid = disk_of c.in-Ok-open.manager in
    leaves_so m (restored_disk c.args.self) (disk_of c.record.new.self) _ _ (done_is c.in-Ok-record.reply) (λ is. absurd is)
    (leaves_on m (restored_disk c.args.self) mid (disk_of c.record.new.self) _ _ (λ no. no)
    (leaves_from m (restored_disk c.args.self) (restored_disk c.decide.new.self) mid _ c.decide.ensures.disk c.in-Ok-open.ensures.leaves) c.in-Ok-record.ensures.leaves)

pub returns-in-Err-record-clause-leaves : goal.returns-in-Err-record-clause-leaves
returns-in-Err-record-clause-leaves g c =
    let m = g.D.Disk.meaning in
    let mid = disk_of c.in-Ok-open.manager in
    leaves_to m (restored_disk c.args.self) (disk_of c.record.new.self) _ _ c.close-in-Err-record.ensures
    (record_disk m (restored_disk c.args.self) (disk_of c.record.new.self) c.in-Err-record.fault c.record_fault.result c.record_fault.ensures
    (leaves_on m (restored_disk c.args.self) mid (disk_of c.record.new.self) _ _ (λ no. no)
    (leaves_from m (restored_disk c.args.self) (restored_disk c.decide.new.self) mid _ c.decide.ensures.disk c.in-Ok-open.ensures.leaves) c.in-Err-record.ensures.leaves))
