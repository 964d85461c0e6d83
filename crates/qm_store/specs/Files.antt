-- What was read of the files, and whether each is as the last call left it.
use Rattle.std.specs.Prelude.{◌≡◌, ℕ, IsTrue, Result, Ok, Err, ◌<◌, ◌≤◌}
use Rattle.qm_history.specs.Common.{Meaning, Epoch, master_text}
use Rattle.qm_glog.specs.Log.{bodies_of, need_of, IsAsLeft}
use Rattle.qm_store.specs.MasterRecords.{state_of}
use Rattle.qm_store.specs.Recorded.{Recorded, with_epoch}
use Rattle.qm_glog.specs.declared.fault.AppendFault.{AppendFault}
use Rattle.qm_glog.specs.declared.fault.AppendFault.TheVariants.{Disk, Full}
use Rattle.qm_store.specs.declared.files.Files.{Files}
use Rattle.qm_store.specs.declared.files.TheConstants.{MASTER_CAP}

-- what was read of the files and appended since
abbrev pub recorded_in : Files → Recorded
recorded_in files = record { master = bodies_of files.master; says = state_of files.says; bodies = bodies_of files.queue }

-- how many bytes the master takes with an epoch more
abbrev pub epoch_need : Recorded → ℕ → ℕ → ℕ
epoch_need r epoch node = need_of r.master (master_text (Epoch epoch node))

-- the epoch is the last one that was recorded, the master is as this left it, and the live file's log is the same
pub record HasBegun {D : Type 0} (m : Meaning D) (epoch node : ℕ) (old new : Files) (disk : D) : Type 0 where
  pub recorded : recorded_in new ≡ with_epoch (recorded_in old) epoch node
  pub queue : new.queue ≡ old.queue
  pub left : IsTrue m.tells → IsAsLeft m new.master disk

-- What beginning an epoch leaves, by its answer. An epoch for which the master has no room is full, and no other one is.
abbrev pub BeginsEpoch : {D T : Type 0} → Meaning D → ℕ → ℕ → Files → Files → D → D → Result T AppendFault → Type 0
BeginsEpoch m epoch node old new before after (Ok done) = (epoch_need (recorded_in old) epoch node ≤ MASTER_CAP) × HasBegun m epoch node old new after
BeginsEpoch m epoch node old new before after (Err Disk) = epoch_need (recorded_in old) epoch node ≤ MASTER_CAP
BeginsEpoch m epoch node old new before after (Err (Full need most)) =
    (most < need) × (need ≡ epoch_need (recorded_in old) epoch node) × (most ≡ MASTER_CAP) × (after ≡ before)

-- both files are as the last calls left them
pub record AreLeft {D : Type 0} (m : Meaning D) (files : Files) (disk : D) : Type 0 where
  pub master : IsAsLeft m files.master disk
  pub queue : IsAsLeft m files.queue disk
