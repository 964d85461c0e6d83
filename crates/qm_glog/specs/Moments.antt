-- What a crash may leave while a log's calls are at work.
use Rattle.std.specs.Prelude.{ℕ, List}
use Rattle.qm_disk.specs.Disk.{CrashState, Torn, OthersLeft}
use Rattle.qm_glog.specs.Records.{IsBeforeOrAfter}

-- a write of n bytes of this file may have been cut short; the other files are as a crash before the call may leave them
pub record TornWrite (may_leave : ℕ → List ℕ → Type 0) (file at n : ℕ) (content : List ℕ) (crashed : CrashState) : Type 0 where
  pub torn : Torn at n content (crashed file)
  pub others : OthersLeft may_leave file crashed

-- the file is a log of these bodies, or of these and one more; the other files as above
pub record TornAppend (may_leave : ℕ → List ℕ → Type 0) (file : ℕ) (bodies : List (List ℕ)) (body : List ℕ) (crashed : CrashState) : Type 0 where
  pub records : IsBeforeOrAfter bodies body (crashed file)
  pub others : OthersLeft may_leave file crashed
