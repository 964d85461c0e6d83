-- What the files of a queue database hold: a master, and the records of the live queue file.
-- OpenVMS System Manager's Manual, Managing the Queue Manager and Queue Database, on the files of the queue database.
use Rattle.std.specs.Prelude.{◌⊎◌, ℕ, ◌+◌, max, List, [], ◌∷◌, ◌++◌, map}
use Rattle.qm_disk.specs.Disk.{Meaning, CrashState, Only, OthersLeft}
use Rattle.qm_history.specs.Common.{IsLog, MasterState, Found, Epoch, master_text, Record, record_text}
use Rattle.qm_store.specs.MasterJudging.{IsMaster}
use Rattle.qm_store.specs.declared.files.TheConstants.{MASTER_FILE, FIRST_QUEUE_FILE}

-- the bodies of the master's records, what they say, and the bodies of the live queue file's records
pub record Recorded : Type 0 where
  pub master : List (List ℕ)
  pub says : MasterState
  pub bodies : List (List ℕ)

-- the files hold this; the queue file that isn't live may hold anything
pub record Holds (files : CrashState) (r : Recorded) : Type 0 where
  pub master_is_log : IsLog (files MASTER_FILE) r.master
  pub is_master : IsMaster r.master r.says
  pub live_is_log : IsLog (files r.says.live) r.bodies

-- the files hold this, and no crash can take any of it away
pub record IsAtRest {D : Type 0} (m : Meaning D) (r : Recorded) (disk : D) : Type 0 where
  pub holds : Holds (m.seen disk) r
  pub master_is_durable : Only (m.seen disk MASTER_FILE) (m.may_leave disk MASTER_FILE)
  pub live_is_durable : Only (m.seen disk r.says.live) (m.may_leave disk r.says.live)

-- the files hold the one or the other, and all but this file are as a crash before the call may leave them
pub record HoldsEither (may_leave : ℕ → List ℕ → Type 0) (file : ℕ) (old new : Recorded) (crashed : CrashState) : Type 0 where
  pub either : Holds crashed old ⊎ Holds crashed new
  pub others : OthersLeft may_leave file crashed

-- the same with one more record in the live queue file
abbrev pub with_body : Recorded → List ℕ → Recorded
with_body r body = record r { bodies = r.bodies ++ body ∷ [] }

-- the same in a later epoch, with this node as manager
abbrev pub with_epoch : Recorded → ℕ → ℕ → Recorded
with_epoch r epoch node = record {
  master = r.master ++ master_text (Epoch epoch node) ∷ [];
  says = record (r.says) { epoch = epoch };
  bodies = r.bodies;
}

-- the epoch behind those that were recorded and this one, which was tried
abbrev pub epoch_behind : Recorded → ℕ → ℕ
epoch_behind r tried = max r.says.epoch tried + 1

-- a new database: no epoch was, and the first queue file is live and has these bodies
abbrev pub database_of : ℕ → List (List ℕ) → Recorded
database_of cap bodies = record {
  master = master_text (Found cap FIRST_QUEUE_FILE) ∷ [];
  says = record { cap = cap; live = FIRST_QUEUE_FILE; epoch = 0 };
  bodies = bodies;
}

-- the one of these rows
abbrev pub new_database : ℕ → List Record → Recorded
new_database cap rows = database_of cap (map record_text rows)
