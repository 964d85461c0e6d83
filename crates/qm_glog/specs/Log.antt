-- What a log shows.
use Rattle.std.specs.Prelude.{◌≡◌, ℕ, ◌+◌, ◌-◌, ◌^◌, min, List, length}
use Rattle.qm_disk.specs.Disk.{Meaning, Only}
use Rattle.qm_glog.specs.Records.{size_of, IsLog}
use Rattle.qm_glog.specs.Bodies.{list_of}
use Rattle.qm_glog.specs.declared.log.Log.{Log}

-- the bodies of its records, the first one first
abbrev pub bodies_of : Log → List (List ℕ)
bodies_of log = list_of log.bodies

-- the file of the disk in which it stands
abbrev pub file_of : Log → ℕ
file_of log = log.file

-- the greatest size that an append may give the file, in bytes
abbrev pub cap_of : Log → ℕ
cap_of log = log.cap

-- one more than the bytes of the longest body for which an append has memory, or 0 where it has none
abbrev pub spare_of : Log → ℕ
spare_of log = log.spare

-- how many bytes the file takes with this record and the closed gate behind it, a number that stands at the end of its type
abbrev pub need_of : List (List ℕ) → List ℕ → ℕ
need_of bodies body = min (size_of bodies + length body + 6) (2 ^ 64 - 1)

-- the log stands in this file, under this cap
pub record StandsIn (file cap : ℕ) (log : Log) : Type 0 where
  pub file_is : log.file ≡ file
  pub cap_is : log.cap ≡ cap

-- the file is as the last call of this log left it: it holds the log's records, all on the disk
pub record IsAsLeft {D : Type 0} (m : Meaning D) (log : Log) (disk : D) : Type 0 where
  pub records : IsLog (m.seen disk log.file) (bodies_of log)
  pub durable : Only (m.seen disk log.file) (m.may_leave disk log.file)
