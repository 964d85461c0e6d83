-- What stays where entries come, go or change.
use Rattle.std.specs.Prelude.{◌≡◌, ◌≤◌, ◌+◌, ℕ, false, length, IfSome, bytes_eq}
use Rattle.qm_model.specs.Common.{Entry, entry_numbered}
use Rattle.qm_parts.specs.Rooms.{HavePlacesFor}
use Rattle.qm_parts.specs.Tables.{Tables}
use Rattle.qm_image.specs.declared.image.Image.{Image}

-- The files are the same but for how often they are named, and the tables but for the entries and the timers; there is no less
-- room for runs.
pub record KeepsOthers (old new : Image) : Type 0 where
  pub files : new.spool ≡ record old.spool { counts = new.spool.counts }
  pub tables : new.parts ≡ record old.parts { entries = new.parts.entries; timers = new.parts.timers; spare_runs = new.parts.spare_runs; spare_timers = new.parts.spare_timers }
  pub runs : old.parts.spare_runs ≤ new.parts.spare_runs

-- as many timers as there is room for, those that are there among them
abbrev pub KeepsTimerRoom : Tables → Tables → Type 0
KeepsTimerRoom old new = new.spare_timers + length new.timers ≡ old.spare_timers + length old.timers

-- where the entry of the number is there, and this one has another home, the rows of the queues that it may come to have room for
-- it
abbrev pub HasPlaceIfMoved : ℕ → Tables → Entry → Type 0
HasPlaceIfMoved number t e = IfSome (entry_numbered number t.entries) (λ old. bytes_eq old.home e.home ≡ false → HavePlacesFor e.home 1 t)
