-- What an append answers, and what it leaves.
use Rattle.std.specs.Prelude.{◌≡◌, ◌<◌, ◌≤◌, ℕ, IsTrue, List, [], ◌∷◌, ◌++◌, Result, Ok, Err}
use Rattle.qm_disk.specs.Disk.{Meaning, KeepsOthers, LeavesOnly}
use Rattle.qm_glog.specs.Records.{IsShutByZero}
use Rattle.qm_glog.specs.Moments.{TornAppend}
use Rattle.qm_glog.specs.Log.{bodies_of, cap_of, spare_of, need_of, IsAsLeft}
use Rattle.qm_glog.specs.declared.log.Log.{Log}
use Rattle.qm_glog.specs.declared.fault.AppendFault.{AppendFault}
use Rattle.qm_glog.specs.declared.fault.AppendFault.TheVariants.{Disk, Full}

-- The body is the log's last one, and nothing is spare any more. The file holds the log's records, all on the disk, and
-- behind them the byte 0.
pub record Adds {D : Type 0} (m : Meaning D) (body : List ℕ) (old new : Log) (disk : D) : Type 0 where
  pub bodies : bodies_of new ≡ bodies_of old ++ body ∷ []
  pub left : IsTrue m.tells → IsAsLeft m new disk
  pub shut : IsTrue m.tells → IsShutByZero (m.seen disk old.file) (bodies_of new)
  pub spare : spare_of new ≡ 0

-- What an append leaves of the log and of the disk, by its answer. A record that needs more than the cap is full, and no
-- other one is.
abbrev pub Appended : {D T : Type 0} → Meaning D → List ℕ → Log → Log → D → D → Result T AppendFault → Type 0
Appended m body old new before after (Ok done) = (need_of (bodies_of old) body ≤ cap_of old) × Adds m body old new after
Appended m body old new before after (Err Disk) = (need_of (bodies_of old) body ≤ cap_of old) × (bodies_of new ≡ bodies_of old)
Appended m body old new before after (Err (Full need most)) =
    (most < need) × (need ≡ need_of (bodies_of old) body) × (most ≡ cap_of old) × (new ≡ old) × (after ≡ before)

-- What an append does to the disk: a crash at any moment of it leaves the old records, or these and the new one; the
-- other files stay.
pub record Appends {D : Type 0} (m : Meaning D) (body : List ℕ) (log : Log) (before after : D) : Type 0 where
  pub any_moment : IsTrue m.tells → LeavesOnly m before after (TornAppend (m.may_leave before) log.file (bodies_of log) body)
  pub others : KeepsOthers m log.file before after
