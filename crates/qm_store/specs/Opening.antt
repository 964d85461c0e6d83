-- What opening a database answers, and what it leaves.
use Rattle.std.specs.Prelude.{◌≡◌, ◌<◌, ◌≤◌, ◌^◌, ℕ, IsTrue, Result, Ok, Err}
use Rattle.qm_disk.specs.Disk.{Meaning}
use Rattle.qm_store.specs.Database.{disk_of, loaded_disk, loaded_record, loaded_spare, open_disk, open_record, spare_of}
use Rattle.qm_store.specs.Files.{epoch_need}
use Rattle.qm_store.specs.Recorded.{Recorded, IsAtRest, epoch_behind, with_epoch}
use Rattle.qm_store.specs.declared.closed.Closed.{Closed}
use Rattle.qm_store.specs.declared.fault.WriteFault.{WriteFault}
use Rattle.qm_store.specs.declared.fault.WriteFault.TheVariants.{Disk, Full, NoMemory}
use Rattle.qm_store.specs.declared.files.TheConstants.{MASTER_CAP}
use Rattle.qm_store.specs.declared.loaded.Loaded.{Loaded}
use Rattle.qm_store.specs.declared.opened.Open.{Open}

-- what is recorded behind those records and this epoch, which was tried
abbrev pub in_next_epoch : Recorded → ℕ → ℕ → Recorded
in_next_epoch r tried node = with_epoch r (epoch_behind r tried) node

-- how many bytes the master takes with it
abbrev pub next_need : Recorded → ℕ → ℕ → ℕ
next_need r tried node = epoch_need r (epoch_behind r tried) node

-- the next epoch is recorded, and no crash can take it away, as long as it is one that a master can hold; what was spare is
pub record IsOpened {D : Type 0} (m : Meaning D) (tried node : ℕ) (old : Loaded D) (new : Open D) : Type 0 where
  pub recorded : open_record new ≡ in_next_epoch (loaded_record old) tried node
  pub at_rest : IsTrue m.tells → epoch_behind (loaded_record old) tried < 2 ^ 62 → IsAtRest m (open_record new) (open_disk new)
  pub spare : spare_of new ≡ loaded_spare old

-- why it isn't, and the epoch that was tried by then
abbrev pub IsNotOpened : {D : Type 0} → ℕ → ℕ → Loaded D → Closed D → ℕ → WriteFault → Type 0
IsNotOpened tried node old closed number Disk = (next_need (loaded_record old) tried node ≤ MASTER_CAP) × (number ≡ epoch_behind (loaded_record old) tried)
IsNotOpened tried node old closed number (Full need most) =
    (most < need) × (need ≡ next_need (loaded_record old) tried node) × (most ≡ MASTER_CAP) × (number ≡ tried) × (disk_of closed ≡ loaded_disk old)
IsNotOpened tried node old closed number NoMemory = (number ≡ tried) × (disk_of closed ≡ loaded_disk old)

abbrev pub Opens : {D : Type 0} → Meaning D → ℕ → ℕ → Loaded D → Result (Open D) (Closed D × WriteFault × ℕ) → Type 0
Opens m tried node old (Ok new) = (next_need (loaded_record old) tried node ≤ MASTER_CAP) × IsOpened m tried node old new
Opens m tried node old (Err failed) = IsNotOpened tried node old failed.0 failed.2 failed.1

-- the device after it
abbrev pub disk_behind : {D : Type 0} → Result (Open D) (Closed D × WriteFault × ℕ) → D
disk_behind (Ok new) = open_disk new
disk_behind (Err failed) = disk_of failed.0

-- it failed by this fault
abbrev pub FailsBy : {D : Type 0} → Result (Open D) (Closed D × WriteFault × ℕ) → WriteFault → Type 0
FailsBy (Ok done) fault = ⊥
FailsBy (Err failed) fault = failed.1 ≡ fault
