-- The listing of a site by what its files hold.
-- DCL Dictionary, SHOW QUEUE, on /ALL_JOBS.
use Rattle.std.specs.Prelude.{◌≡◌, ℕ, IsTrue, List}
use Rattle.qm_store.specs.Recorded.{Holds, Recorded}
use Rattle.qm_history.specs.Common.{CrashState, Meaning, System}
use Rattle.qm_history.specs.Ends.{show_text}
use Rattle.qm_restore.specs.QueueFile.{IsSiteFile}

-- the files hold a site with this system
pub record HoldSite (files : CrashState) (s : System) : Type 0 where
  pub recorded : Recorded
  pub holds : Holds files recorded
  pub site : IsSiteFile recorded.bodies s

-- The text is the listing of a system: that of the site which the files of the disk hold, where the disk tells them.
pub record IsListingOf {D : Type 0} (m : Meaning D) (disk : D) (text : List ℕ) : Type 0 where
  pub system : System
  pub held : IsTrue m.tells → HoldSite (m.seen disk) system
  pub is : text ≡ show_text system
