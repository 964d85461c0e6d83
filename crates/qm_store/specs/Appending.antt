-- What an append answers, and what it leaves.
use Rattle.std.specs.Prelude.{◌≡◌, ◌≢◌, ◌<◌, ◌≤◌, ℕ, IsTrue, List, Result, Ok, Err}
use Rattle.qm_history.specs.Common.{Meaning, need_of}
use Rattle.qm_store.specs.Database.{open_disk, open_record, spare_of}
use Rattle.qm_store.specs.Recorded.{Recorded, IsAtRest, with_body}
use Rattle.qm_store.specs.declared.fault.AppendFault.{AppendFault}
use Rattle.qm_store.specs.declared.fault.AppendFault.TheVariants.{Disk, Fenced, Full}
use Rattle.qm_store.specs.declared.opened.Open.{Open}

-- the body is the last one, no crash can take it away, and nothing is spare any more
pub record Adds {D : Type 0} (m : Meaning D) (body : List ℕ) (old new : Open D) : Type 0 where
  pub recorded : open_record new ≡ with_body (open_record old) body
  pub at_rest : IsTrue m.tells → IsAtRest m (open_record new) (open_disk new)
  pub spare : spare_of new ≡ 0

-- nothing has changed
pub record IsSame {D : Type 0} (old new : Open D) : Type 0 where
  pub recorded : open_record new ≡ open_record old
  pub disk : open_disk new ≡ open_disk old
  pub spare : spare_of new ≡ spare_of old

-- the body's need, which is within the cap
abbrev pub HasRoom : Recorded → List ℕ → Type 0
HasRoom r body = need_of r.bodies body ≤ r.says.cap

-- What an append leaves, by its answer. It is fenced exactly where the epochs differ; and otherwise full exactly where the record
-- needs more than the cap.
abbrev pub Appended : {D T : Type 0} → Meaning D → ℕ → List ℕ → Open D → Open D → Result T AppendFault → Type 0
Appended m epoch body old new (Ok done) = (epoch ≡ (open_record old).says.epoch) × HasRoom (open_record old) body × Adds m body old new
Appended m epoch body old new (Err Disk) = (epoch ≡ (open_record old).says.epoch) × HasRoom (open_record old) body × (open_record new ≡ open_record old)
Appended m epoch body old new (Err (Fenced held current)) = (held ≢ current) × (held ≡ epoch) × (current ≡ (open_record old).says.epoch) × IsSame old new
Appended m epoch body old new (Err (Full need most)) =
    (epoch ≡ (open_record old).says.epoch) × (most < need) × (need ≡ need_of (open_record old).bodies body) × (most ≡ (open_record old).says.cap) × IsSame old new
