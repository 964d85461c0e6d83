use Rattle.std.proofs.Common.{ℕ, length, vec_capacity, ◌≤◌, ◌∙◌, Ok, Err, refl, subst, sym, IsErrOf}
use Rattle.qm_history.specs.Common.{Accepted, Refusal}
use Rattle.qm_image.specs.Preparing.{made}
use Rattle.qm_acting.specs.Deciding.{Records}
use Rattle.qm_acting.specs.Standing.{Standing, disk_of, standing_of}
use Rattle.qm_acting.specs.declared.fault.AskFault.{AskFault}
use Rattle.qm_acting.specs.declared.fault.AskFault.TheVariants as fault
use Rattle.qm_acting.specs.declared.replies.Replies.{Replies}
use Rattle.qm_acting.specs.declared.fault.RecordFault.TheVariants as recording
use Rattle.qm_acting.proofs.Decided.{ready_on, same_system, site_behind, done_so, doubt_so, lacks_so, writes_behind}
use Rattle.qm_acting.proofs.Leaving.{leaves_at, leaves_from, leaves_so}
use Rattle.qm_acting.proofs.Taken.{done_is, full_is}
use Rattle.qm_acting.proofs.manager.Manager.ask.Goals as goal

pub decide-requires-clause-sound : goal.decide-requires-clause-sound
decide-requires-clause-sound g c =
    let st = standing_of c.args.self.now in
    c.site_files_are_consistent.ensures st.recorded.bodies st.system c.requires.ready.file

pub decide-requires-clause-can : goal.decide-requires-clause-can
decide-requires-clause-can g c = c.requires.can

-- ---- it isn't accepted, or memory is wanted

refused_is : (refusal : Refusal) → IsErrOf {T = Replies} (Err (fault.Refused refusal)) fault.Disk → ⊥
refused_is refusal same = cc

no_memory_is : IsErrOf {T = Replies} (Err fault.NoMemory) fault.Disk → ⊥
no_memory_is same = cc

ask_full_is : (need cap : ℕ) → IsErrOf {T = Replies} (Err (fault.Full need cap)) fault.Disk → ⊥
ask_full_is need cap same = cc

asked_is : (replies : Replies) → IsErrOf {E = AskFault} (Ok replies) fault.Disk → ⊥
asked_is replies same = cc

pub returns-in-Err-By-clause-answer : goal.returns-in-Err-By-clause-answer
returns-in-Err-By-clause-answer g c =
    let e = rw c.in-Err-By.field-0-is at c.in-Err-By.ensures in
    (e.refused, same_system (standing_of c.args.self.now) _ c.decide.ensures.rows)

pub returns-in-Err-By-clause-ready : goal.returns-in-Err-By-clause-ready
returns-in-Err-By-clause-ready g c = λ no.
    let st = standing_of c.args.self.now in
    ready_on g.D.Disk.meaning st _ (disk_of c.args.self.now) (disk_of c.args.self.now) (same_system st _ c.decide.ensures.rows) refl c.requires.ready

pub returns-in-Err-By-clause-writes : goal.returns-in-Err-By-clause-writes
returns-in-Err-By-clause-writes g c = refl

pub returns-in-Err-By-clause-leaves : goal.returns-in-Err-By-clause-leaves
returns-in-Err-By-clause-leaves g c =
    leaves_at g.D.Disk.meaning (disk_of c.args.self.now) (disk_of c.args.self.now) _ refl (refused_is _)

pub returns-in-Err-NoMemory-clause-answer : goal.returns-in-Err-NoMemory-clause-answer
returns-in-Err-NoMemory-clause-answer g c =
    let e = rw c.in-Err-NoMemory.field-0-is at c.in-Err-NoMemory.ensures in
    (e.refused, same_system (standing_of c.args.self.now) _ c.decide.ensures.rows)

pub returns-in-Err-NoMemory-clause-ready : goal.returns-in-Err-NoMemory-clause-ready
returns-in-Err-NoMemory-clause-ready g c = λ no.
    let st = standing_of c.args.self.now in
    ready_on g.D.Disk.meaning st _ (disk_of c.args.self.now) (disk_of c.args.self.now) (same_system st _ c.decide.ensures.rows) refl c.requires.ready

pub returns-in-Err-NoMemory-clause-writes : goal.returns-in-Err-NoMemory-clause-writes
returns-in-Err-NoMemory-clause-writes g c = refl

pub returns-in-Err-NoMemory-clause-leaves : goal.returns-in-Err-NoMemory-clause-leaves
returns-in-Err-NoMemory-clause-leaves g c = leaves_at g.D.Disk.meaning (disk_of c.args.self.now) (disk_of c.args.self.now) _ refl no_memory_is

pub take_room-requires : goal.take_room-requires
take_room-requires g c = record { prepared = c.in-Ok.ensures.decides.prepared }

pub returns-in_default-clause-answer : goal.returns-in_default-clause-answer
returns-in_default-clause-answer g c = (c.in-Ok.ensures.refused, c.take_room.ensures.standing ∙ same_system (standing_of c.args.self.now) _ c.decide.ensures.rows)

pub returns-in_default-clause-ready : goal.returns-in_default-clause-ready
returns-in_default-clause-ready g c = λ no.
    let st = standing_of c.args.self.now in
    ready_on g.D.Disk.meaning st (standing_of c.take_room.new.self) (disk_of c.args.self.now) (disk_of c.take_room.new.self)
    (c.take_room.ensures.standing ∙ same_system st _ c.decide.ensures.rows) c.take_room.ensures.disk c.requires.ready

pub returns-in_default-clause-writes : goal.returns-in_default-clause-writes
returns-in_default-clause-writes g c = c.take_room.ensures.disk

pub returns-in_default-clause-leaves : goal.returns-in_default-clause-leaves
returns-in_default-clause-leaves g c =
    leaves_at g.D.Disk.meaning (disk_of c.args.self.now) (disk_of c.take_room.new.self) _ c.take_room.ensures.disk no_memory_is

-- ---- the record is written

pub record-requires-clause-ready : goal.record-requires-clause-ready
record-requires-clause-ready g c =
    let st = standing_of c.args.self.now in
    ready_on g.D.Disk.meaning st (standing_of c.take_room.new.self) (disk_of c.args.self.now) (disk_of c.take_room.new.self)
    (c.take_room.ensures.standing ∙ same_system st _ c.decide.ensures.rows) c.take_room.ensures.disk c.requires.ready

pub record-requires-clause-prepared : goal.record-requires-clause-prepared
record-requires-clause-prepared g c = c.take_room.ensures.prepared

pub record-requires-clause-goes_on : goal.record-requires-clause-goes_on
record-requires-clause-goes_on g c =
    let st = standing_of c.args.self.now in
    site_behind st c.args.moment c.args.node c.args.request.now c.decide.new.image c.in-Ok.decision c.requires.can c.in-Ok.ensures.decides (standing_of c.take_room.new.self)
    (c.take_room.ensures.standing ∙ same_system st _ c.decide.ensures.rows) c.requires.ready.file

pub record-requires-clause-room : goal.record-requires-clause-room
record-requires-clause-room g c = c.in-Ok-take_room.ensures.spare

pub copy_of-requires-clause-empty : goal.copy_of-requires-clause-empty
copy_of-requires-clause-empty g c = c.in-Ok-take_room.ensures.empty

pub copy_of-requires-clause-room : goal.copy_of-requires-clause-room
copy_of-requires-clause-room g c =
    let p = c.in-Ok.decision.prepared in
    let within = c.in-Ok-take_room.ensures.room in
    subst (λ (done : Accepted). length done.reply.started ≤ vec_capacity c.in-Ok-take_room.room) c.in-Ok-record.ensures.answer.1
    (subst (λ (x : Standing). length (made p x.system).reply.started ≤ vec_capacity c.in-Ok-take_room.room) (sym c.take_room.ensures.standing) within)

pub returns-in-Ok-record-clause-answer : goal.returns-in-Ok-record-clause-answer
returns-in-Ok-record-clause-answer g c =
    let st = standing_of c.args.self.now in
    let is = c.take_room.ensures.standing ∙ same_system st _ c.decide.ensures.rows in (
      done_so st c.args.moment c.args.node c.args.request.now c.decide.new.image c.in-Ok.decision c.requires.can c.in-Ok.ensures.decides (standing_of c.record.new.self) c.in-Ok-record.reply
          (subst (λ (x : Standing). Records c.in-Ok.decision x (standing_of c.record.new.self) (Ok c.in-Ok-record.reply)) is c.in-Ok-record.ensures.answer),
      c.copy_of.ensures,
    )

pub returns-in-Ok-record-clause-ready : goal.returns-in-Ok-record-clause-ready
returns-in-Ok-record-clause-ready g c = λ no. c.in-Ok-record.ensures.ready (done_is c.in-Ok-record.reply)

pub returns-in-Ok-record-clause-writes : goal.returns-in-Ok-record-clause-writes
returns-in-Ok-record-clause-writes g c =
    let m = g.D.Disk.meaning in
    let st = standing_of c.args.self.now in
    let after = disk_of c.record.new.self in
    let is = c.take_room.ensures.standing ∙ same_system st _ c.decide.ensures.rows in
    writes_behind st c.args.moment c.args.node c.args.request.now c.decide.new.image c.in-Ok.decision c.requires.can c.in-Ok.ensures.decides m
    (standing_of c.take_room.new.self) (disk_of c.args.self.now) (disk_of c.take_room.new.self) after is c.take_room.ensures.disk c.record.ensures.writes

pub returns-in-Ok-record-clause-leaves : goal.returns-in-Ok-record-clause-leaves
returns-in-Ok-record-clause-leaves g c =
    let m = g.D.Disk.meaning in
    leaves_from m (disk_of c.args.self.now) (disk_of c.take_room.new.self) (disk_of c.record.new.self) _ c.take_room.ensures.disk
    (leaves_so m (disk_of c.take_room.new.self) (disk_of c.record.new.self) _ _ (λ is. absurd (done_is c.in-Ok-record.reply is)) (λ is. absurd (asked_is _ is)) c.in-Ok-record.ensures.leaves)

pub returns-in-Err-Full-clause-answer : goal.returns-in-Err-Full-clause-answer
returns-in-Err-Full-clause-answer g c =
    let st = standing_of c.args.self.now in
    let is = c.take_room.ensures.standing ∙ same_system st _ c.decide.ensures.rows in
    let e = rw c.in-Err-Full.field-0-is at c.in-Err-Full.ensures in (
      lacks_so st c.args.moment c.args.node c.args.request.now c.decide.new.image c.in-Ok.decision c.requires.can c.in-Ok.ensures.decides (standing_of c.record.new.self)
          c.in-Err-Full.need c.in-Err-Full.cap
          (subst (λ (x : Standing). Records c.in-Ok.decision x (standing_of c.record.new.self) (Err (recording.Full c.in-Err-Full.need c.in-Err-Full.cap))) is e.answer),
      e.answer.3 ∙ is,
    )

pub returns-in-Err-Full-clause-ready : goal.returns-in-Err-Full-clause-ready
returns-in-Err-Full-clause-ready g c = λ no.
    let e = rw c.in-Err-Full.field-0-is at c.in-Err-Full.ensures in
    e.ready (full_is c.in-Err-Full.need c.in-Err-Full.cap)

pub returns-in-Err-Full-clause-writes : goal.returns-in-Err-Full-clause-writes
returns-in-Err-Full-clause-writes g c =
    let e = rw c.in-Err-Full.field-0-is at c.in-Err-Full.ensures in
    e.full ∙ c.take_room.ensures.disk

pub returns-in-Err-Full-clause-leaves : goal.returns-in-Err-Full-clause-leaves
returns-in-Err-Full-clause-leaves g c =
    let e = rw c.in-Err-Full.field-0-is at c.in-Err-Full.ensures in
    leaves_at g.D.Disk.meaning (disk_of c.args.self.now) (disk_of c.record.new.self) _ (e.full ∙ c.take_room.ensures.disk) (ask_full_is _ _)

pub returns-clause-answer : goal.returns-clause-answer
returns-clause-answer g c =
    let st = standing_of c.args.self.now in
    let is = c.take_room.ensures.standing ∙ same_system st _ c.decide.ensures.rows in
    let e = rw c.in-Err-Disk.field-0-is at c.in-Err-Disk.ensures in (
      doubt_so st c.args.moment c.args.node c.args.request.now c.decide.new.image c.in-Ok.decision c.requires.can c.in-Ok.ensures.decides (standing_of c.record.new.self)
          (subst (λ (x : Standing). Records c.in-Ok.decision x (standing_of c.record.new.self) (Err recording.Disk)) is e.answer),
      e.answer.1 ∙ is,
    )

pub returns-clause-ready : goal.returns-clause-ready
returns-clause-ready g c = λ no. absurd (no refl)

pub returns-clause-writes : goal.returns-clause-writes
returns-clause-writes g c =
    let m = g.D.Disk.meaning in
    let st = standing_of c.args.self.now in
    let after = disk_of c.record.new.self in
    let is = c.take_room.ensures.standing ∙ same_system st _ c.decide.ensures.rows in
    writes_behind st c.args.moment c.args.node c.args.request.now c.decide.new.image c.in-Ok.decision c.requires.can c.in-Ok.ensures.decides m
    (standing_of c.take_room.new.self) (disk_of c.args.self.now) (disk_of c.take_room.new.self) after is c.take_room.ensures.disk c.record.ensures.writes

pub returns-clause-leaves : goal.returns-clause-leaves
returns-clause-leaves g c =
    let m = g.D.Disk.meaning in
    let e = rw c.in-Err-Disk.field-0-is at c.in-Err-Disk.ensures in
    leaves_from m (disk_of c.args.self.now) (disk_of c.take_room.new.self) (disk_of c.record.new.self) _ c.take_room.ensures.disk
    (leaves_so m (disk_of c.take_room.new.self) (disk_of c.record.new.self) _ _ (λ is. refl) (λ is. refl) e.leaves)
