-- The queue file that isn't live.
-- OpenVMS System Manager's Manual, Managing the Queue Manager and Queue Database, on the files of the queue database.
-- This site's own: two queue files, of which the master says which is live.
use Rattle.std.specs.Prelude.{◌≡◌, ◌≢◌, ◌≤◌, ℕ, List}
use Rattle.qm_history.specs.Common.{CrashState, Meaning, IsLog, MasterState}
use Rattle.qm_store.specs.MasterJudging.{IsMaster}
use Rattle.qm_store.specs.declared.files.TheConstants.{MASTER_FILE}

-- the master of these files says that this queue file is live
pub record IsLive (files : CrashState) (file : ℕ) : Type 0 where
  pub master : List (List ℕ)
  pub says : MasterState
  pub master_is_log : IsLog (files MASTER_FILE) master
  pub is_master : IsMaster master says
  pub is : says.live ≡ file

-- a queue file that isn't the live one
abbrev pub IsSpare : ℕ → ℕ → Type 0
IsSpare live file = (file ≤ 2) × (file ≢ MASTER_FILE) × (file ≢ live)

-- The same file is live; the other queue file reads as before, and a crash leaves of it what it might before.
pub record KeepsSpare {D : Type 0} (m : Meaning D) (old new : D) : Type 0 where
  pub same : (live : ℕ) → IsLive (m.seen old) live → IsLive (m.seen new) live
  pub reads : (live file : ℕ) → IsLive (m.seen old) live → IsSpare live file → m.seen new file ≡ m.seen old file
  pub no_more : (live file : ℕ) (c : List ℕ) → IsLive (m.seen old) live → IsSpare live file → m.may_leave new file c → m.may_leave old file c
