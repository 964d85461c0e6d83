-- What a manager at work stands for, and what files that were read do.
-- OpenVMS System Manager's Manual, Managing the Queue Manager and Queue Database, on the queue manager process and its files.
use Rattle.std.specs.Prelude.{IsTrue}
use Rattle.qm_history.specs.Common.{Meaning, System}
use Rattle.qm_store.specs.Database.{loaded_disk, loaded_record, open_disk, open_record}
use Rattle.qm_store.specs.Recorded.{Recorded, IsAtRest}
use Rattle.qm_restore.specs.QueueFile.{IsSiteFile}
use Rattle.qm_image.specs.Image.{system_of}
use Rattle.qm_acting.specs.declared.manager.Manager.{Manager}
use Rattle.qm_acting.specs.declared.restored.Restored.{Restored}

-- a system, and what the files hold that stands for it
pub record Standing : Type 0 where
  pub system : System
  pub recorded : Recorded

-- the records of the live file are those of a site with this system
abbrev pub IsOfSite : Standing → Type 0
IsOfSite st = IsSiteFile st.recorded.bodies st.system

-- The records of the live file are those of a site with this system, and no crash can take any of it away.
pub record StandsFor {D : Type 0} (m : Meaning D) (st : Standing) (disk : D) : Type 0 where
  pub file : IsOfSite st
  pub at_rest : IsTrue m.tells → IsAtRest m st.recorded disk

-- the image of a manager at work, and what its database holds
abbrev pub standing_of : {D : Type 0} → Manager D → Standing
standing_of manager = record { system = system_of manager.image; recorded = open_record manager.store }

-- its device
abbrev pub disk_of : {D : Type 0} → Manager D → D
disk_of manager = open_disk manager.store

-- The manager can be asked: what it keeps in memory is what the files stand for. So it is from its takeover on, until a call
-- answers that the disk failed.
abbrev pub IsReady : {D : Type 0} → Meaning D → Manager D → Type 0
IsReady m manager = StandsFor m (standing_of manager) (disk_of manager)

-- the same of files that were read
abbrev pub restored_standing : {D : Type 0} → Restored D → Standing
restored_standing restored = record { system = system_of restored.image; recorded = loaded_record restored.loaded }

abbrev pub restored_disk : {D : Type 0} → Restored D → D
restored_disk restored = loaded_disk restored.loaded

abbrev pub IsRestored : {D : Type 0} → Meaning D → Restored D → Type 0
IsRestored m restored = StandsFor m (restored_standing restored) (restored_disk restored)
