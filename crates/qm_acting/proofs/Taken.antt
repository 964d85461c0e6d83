-- What a takeover comes to, by what the epoch and then the record of its request did.
use Rattle.std.proofs.Common.{◌≡◌, ◌≤◌, ⊎_elim, inl, inr, ℕ, IsTrue, List, Ok, Err, refl, sym, subst, IsErrOf}
use Rattle.qm_history.specs.Common.{Meaning, LeavesOnly, Reply, Request}
use Rattle.qm_disk.proofs.Moments.{weaker, goes_further}
use Rattle.qm_store.specs.Opening.{next_need}
use Rattle.qm_store.specs.Recorded.{Recorded, HoldsEither, with_body}
use Rattle.qm_store.specs.declared.fault.WriteFault.{WriteFault}
use Rattle.qm_store.specs.declared.fault.WriteFault.TheVariants as writing
use Rattle.qm_store.specs.declared.files.TheConstants.{MASTER_CAP}
use Rattle.qm_restore.specs.QueueFile.{IsSiteFile}
use Rattle.qm_image.specs.declared.image.Image.{Image}
use Rattle.qm_acting.specs.Asking.{text_of, CanBeAsked, Does, Writes}
use Rattle.qm_acting.specs.Deciding.{standing_with, Decides, LeavesFull, Records}
use Rattle.qm_acting.specs.Leaving.{LeavesDisk}
use Rattle.qm_acting.specs.Standing.{Standing, StandsFor}
use Rattle.qm_acting.specs.Taking.{in_next, taking_fault, recording_fault, HoldsTaken, HoldsEpoch, FailLeaves, IsDiskFault, TakesNot}
use Rattle.qm_acting.specs.declared.decision.Decision.{Decision}
use Rattle.qm_acting.specs.declared.fault.RecordFault.{RecordFault}
use Rattle.qm_acting.specs.declared.fault.RecordFault.TheVariants as recording
use Rattle.qm_acting.specs.declared.fault.TakeFault.{TakeFault}
use Rattle.qm_acting.proofs.Decided.{site_with, done_so, lacks_so, doubt_so, writes_so}
use Rattle.qm_acting.proofs.Leaving.{leaves_so}

-- ---- the epoch

epoch_told : (fault : WriteFault) → fault ≡ writing.Disk → IsDiskFault (taking_fault fault)
epoch_told fault is = subst (λ (f : WriteFault). IsDiskFault (taking_fault f)) (sym is) tt

epoch_is : (fault : WriteFault) → IsDiskFault (taking_fault fault) → fault ≡ writing.Disk
epoch_is writing.Disk is = refl
epoch_is (writing.Full need cap) is = absurd is
epoch_is writing.NoMemory is = absurd is

pub epoch_disk : {D : Type 0} (m : Meaning D) (before after : D) (fault : WriteFault) (taken : TakeFault) → taken ≡ taking_fault fault → LeavesDisk m before after (fault ≡ writing.Disk)
    → LeavesDisk m before after (IsDiskFault taken)
epoch_disk m before after fault taken is leaves =
    subst (λ (t : TakeFault). LeavesDisk m before after (IsDiskFault t)) (sym is)
    (leaves_so m before after (fault ≡ writing.Disk) (IsDiskFault (taking_fault fault)) (epoch_told fault) (epoch_is fault) leaves)

module _ {D : Type 0} (m : Meaning D) (r next : Recorded) (text : List ℕ) (file : ℕ) (before after : D) where
  pub epoch_leaves : LeavesOnly m before after (HoldsEither (m.may_leave before) file r next) → LeavesOnly m before after (HoldsEpoch r next)
  epoch_leaves run = weaker m before after (HoldsEither (m.may_leave before) file r next) (HoldsEpoch r next) run (λ crashed left. left.either)

  epoch_moments_so : (fault : WriteFault) → LeavesOnly m before after (HoldsEither (m.may_leave before) file r next) → FailLeaves m r next text before after (taking_fault fault)
  epoch_moments_so writing.Disk run = epoch_leaves run
  epoch_moments_so (writing.Full need cap) run = tt
  epoch_moments_so writing.NoMemory run = tt

  pub epoch_moments : (fault : WriteFault) (taken : TakeFault) → taken ≡ taking_fault fault → LeavesOnly m before after (HoldsEither (m.may_leave before) file r next)
      → FailLeaves m r next text before after taken
  epoch_moments fault taken is run = subst (FailLeaves m r next text before after) (sym is) (epoch_moments_so fault run)

-- ---- the record in the next epoch

module _ {D : Type 0} (m : Meaning D) (tried moment node : ℕ) (asked : Request) (old mid : Standing) (mid_is : mid ≡ in_next old tried node) (image : Image) (decision : Decision)
    (can : CanBeAsked old.system moment node asked) (decides : Decides old.system moment node asked image decision)
  where
    abbrev next : Standing
    next = in_next old tried node

    pub site_in_next : IsSiteFile old.recorded.bodies old.system → IsSiteFile (standing_with mid decision).recorded.bodies (standing_with mid decision).system
    site_in_next site =
        subst (λ (st : Standing). IsSiteFile (standing_with st decision).recorded.bodies (standing_with st decision).system) (sym mid_is)
        (site_with next moment node asked image decision can decides site)

    pub does_in_next : (new : Standing) (reply : Reply) → Records decision mid new (Ok reply) → Does next moment node asked new reply
    does_in_next new reply told =
        done_so next moment node asked image decision can decides new reply (subst (λ (st : Standing). Records decision st new (Ok reply)) mid_is told)

    module _ (before between after : D) where
      writes_in_next : Writes m mid.recorded decision.body.items between after → Writes m next.recorded (text_of moment node asked) between after
      writes_in_next writes =
          writes_so next moment node asked image decision can decides m between after (subst (λ (st : Standing). Writes m st.recorded decision.body.items between after) mid_is writes)

      -- what was read is there, or the next epoch; and then that, or that and the record
      pub taken_moments : (file : ℕ) → IsTrue m.tells → LeavesOnly m before between (HoldsEither (m.may_leave before) file old.recorded next.recorded) → Writes m mid.recorded decision.body.items between after
          → LeavesOnly m before after (HoldsTaken old.recorded next.recorded (text_of moment node asked))
      taken_moments file told first writes =
          let second = (writes_in_next writes).any_moment told in
          goes_further m before between after (HoldsTaken old.recorded next.recorded (text_of moment node asked))
          (HoldsEither (m.may_leave between) next.recorded.says.live next.recorded (with_body next.recorded (text_of moment node asked)))
          (weaker m before between (HoldsEither (m.may_leave before) file old.recorded next.recorded) (HoldsTaken old.recorded next.recorded (text_of moment node asked)) first
          (λ crashed left. ⊎_elim (λ was. inl was) (λ now. inr (inl now)) left.either))
          second (λ crashed left. inr left.either)

      record_moments_so : (fault : RecordFault) (file : ℕ) → IsTrue m.tells → LeavesOnly m before between (HoldsEither (m.may_leave before) file old.recorded next.recorded)
          → Writes m mid.recorded decision.body.items between after → LeavesFull between after (Err fault)
          → FailLeaves m old.recorded next.recorded (text_of moment node asked) before after (recording_fault fault)
      record_moments_so recording.Disk file told first writes same = taken_moments file told first writes
      record_moments_so (recording.Full need cap) file told first writes same =
          subst (λ (d : D). LeavesOnly m before d (HoldsEpoch old.recorded next.recorded)) (sym same) (epoch_leaves m old.recorded next.recorded (text_of moment node asked) file before between first)

      pub record_moments : (fault : RecordFault) (taken : TakeFault) → taken ≡ recording_fault fault → (file : ℕ) → IsTrue m.tells → LeavesOnly m before between (HoldsEither (m.may_leave before) file old.recorded next.recorded)
          → Writes m mid.recorded decision.body.items between after → LeavesFull between after (Err fault)
          → FailLeaves m old.recorded next.recorded (text_of moment node asked) before after taken
      record_moments fault taken is file told first writes same =
          subst (FailLeaves m old.recorded next.recorded (text_of moment node asked) before after) (sym is) (record_moments_so fault file told first writes same)

      record_told_so : (fault : RecordFault) (new : Standing) → next_need old.recorded tried node ≤ MASTER_CAP → StandsFor m mid between → Records decision mid new (Err fault) → LeavesFull between after (Err fault)
          → TakesNot m tried moment node asked old before after (recording_fault fault)
      record_told_so recording.Disk new room stands told same =
          (room, doubt_so next moment node asked image decision can decides new (subst (λ (st : Standing). Records decision st new (Err recording.Disk)) mid_is told))
      record_told_so (recording.Full need cap) new room stands told same = (
        record {
          master_room = room;
          at_rest = (subst (λ (d : D). StandsFor m next d) (sym same) (subst (λ (st : Standing). StandsFor m st between) mid_is stands)).at_rest;
        },
        lacks_so next moment node asked image decision can decides new need cap (subst (λ (st : Standing). Records decision st new (Err (recording.Full need cap))) mid_is told),
      )

      pub record_told : (fault : RecordFault) (taken : TakeFault) → taken ≡ recording_fault fault → (new : Standing) → next_need old.recorded tried node ≤ MASTER_CAP → StandsFor m mid between
          → Records decision mid new (Err fault) → LeavesFull between after (Err fault) → TakesNot m tried moment node asked old before after taken
      record_told fault taken is new room stands told same =
          subst (TakesNot m tried moment node asked old before after) (sym is) (record_told_so fault new room stands told same)

-- ---- how many calls failed

pub full_is : (need cap : ℕ) → IsErrOf {T = Reply} (Err (recording.Full need cap)) recording.Disk → ⊥
full_is need cap same = cc

pub done_is : (reply : Reply) → IsErrOf (Ok reply) recording.Disk → ⊥
done_is reply same = cc

record_told_of : (fault : RecordFault) → IsErrOf {T = Reply} (Err fault) recording.Disk → IsDiskFault (recording_fault fault)
record_told_of recording.Disk is = tt
record_told_of (recording.Full need cap) is = absurd (full_is need cap is)

record_is : (fault : RecordFault) → IsDiskFault (recording_fault fault) → IsErrOf {T = Reply} (Err fault) recording.Disk
record_is recording.Disk is = refl
record_is (recording.Full need cap) is = absurd is

pub record_disk : {D : Type 0} (m : Meaning D) (before after : D) (fault : RecordFault) (taken : TakeFault) → taken ≡ recording_fault fault
    → LeavesDisk m before after (IsErrOf {T = Reply} (Err fault) recording.Disk) → LeavesDisk m before after (IsDiskFault taken)
record_disk m before after fault taken is leaves =
    subst (λ (t : TakeFault). LeavesDisk m before after (IsDiskFault t)) (sym is)
    (leaves_so m before after (IsErrOf {T = Reply} (Err fault) recording.Disk) (IsDiskFault (recording_fault fault)) (record_told_of fault) (record_is fault) leaves)

-- ---- what memory was taken for is as it was

pub moments_before : {D : Type 0} (m : Meaning D) (file tried node : ℕ) (before mid after : D) (old taken : Standing) → mid ≡ before → taken ≡ old
    → LeavesOnly m mid after (HoldsEither (m.may_leave mid) file taken.recorded (in_next taken tried node).recorded)
    → LeavesOnly m before after (HoldsEither (m.may_leave before) file old.recorded (in_next old tried node).recorded)
moments_before m file tried node before mid after old taken disk_is standing_is run =
    subst (λ d. LeavesOnly m d after (HoldsEither (m.may_leave d) file old.recorded (in_next old tried node).recorded)) disk_is
    (subst (λ (st : Standing). LeavesOnly m mid after (HoldsEither (m.may_leave mid) file st.recorded (in_next st tried node).recorded)) standing_is run)
