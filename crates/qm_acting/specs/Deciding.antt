-- What a request is that was decided on, and what its record leaves.
use Rattle.std.specs.Prelude.{◌≡◌, ◌<◌, ◌≤◌, ℕ, Result, Ok, Err}
use Rattle.qm_history.specs.Common.{Spells, Reply, Request, System, applied, request_record, HasSpelling, record_text}
use Rattle.qm_store.specs.Recorded.{with_body}
use Rattle.qm_image.specs.Preparing.{made, IsPrepared}
use Rattle.qm_image.specs.declared.image.Image.{Image}
use Rattle.qm_acting.specs.Asking.{need_with}
use Rattle.qm_acting.specs.Standing.{Standing}
use Rattle.qm_acting.specs.declared.decision.Decision.{Decision}
use Rattle.qm_acting.specs.declared.fault.RecordFault.{RecordFault}
use Rattle.qm_acting.specs.declared.fault.RecordFault.TheVariants.{Full, Disk}

-- the change can be made on the image, it is what the rules make of the request, and the body spells its record
pub record Decides (s : System) (moment node : ℕ) (asked : Request) (image : Image) (decision : Decision) : Type 0 where
  pub prepared : IsPrepared image decision.prepared
  pub accepted : applied s moment node asked ≡ Ok (made decision.prepared s)
  pub spells : Spells HasSpelling record_text (request_record moment node asked) decision.body.items

-- what stands once the record is there and the change is made
abbrev pub standing_with : Standing → Decision → Standing
standing_with st decision = record { system = (made decision.prepared st.system).system; recorded = with_body st.recorded decision.body.items }

-- What writing the record leaves, by its answer.
abbrev pub Records : Decision → Standing → Standing → Result Reply RecordFault → Type 0
Records decision old new (Ok reply) =
    (need_with old.recorded decision.body.items ≤ old.recorded.says.cap) × (made decision.prepared old.system ≡ record { system = new.system; reply = reply })
    × (new.recorded ≡ with_body old.recorded decision.body.items)
Records decision old new (Err Disk) = (need_with old.recorded decision.body.items ≤ old.recorded.says.cap) × (new ≡ old)
Records decision old new (Err (Full need cap)) =
    (cap < need) × (need ≡ need_with old.recorded decision.body.items) × (cap ≡ old.recorded.says.cap) × (new ≡ old)

-- a record without room leaves the device as it was
abbrev pub LeavesFull : {D : Type 0} → D → D → Result Reply RecordFault → Type 0
LeavesFull old new (Ok reply) = Unit {0}
LeavesFull old new (Err Disk) = Unit {0}
LeavesFull old new (Err (Full need cap)) = new ≡ old
