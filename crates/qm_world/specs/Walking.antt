-- What a walk along events tells, one event after the other.
use Rattle.std.specs.Prelude.{◌≡◌, ℕ, Bool, List, take, slice_get, Option, Some, Result, Ok, Err}
use Rattle.qm_model.specs.Folding.{system_of as system_of_log}
use Rattle.qm_history.specs.declared.event.Event.{Event}
use Rattle.qm_history.specs.declared.world.World.{World}
use Rattle.qm_history.specs.Common.{after_event, after_events, CanCome, CanAllCome, system_in, log_read, doubt_read, IsSound}
use Rattle.qm_image.specs.Image.{system_of}
use Rattle.qm_world.specs.declared.end.Stop.{Stop}
use Rattle.qm_world.specs.declared.end.Stop.TheVariants as stop
use Rattle.qm_world.specs.declared.end.WalkEnd.{WalkEnd}
use Rattle.qm_world.specs.declared.end.WalkEnd.TheVariants as walk_end
use Rattle.qm_world.specs.declared.walker.Walker.{Walker}

-- ---- the whole walk

-- each event may come behind those before it, and this is the world behind them
pub record LeadTo (start : World) (events : List Event) (world : World) : Type 0 where
  pub come : CanAllCome start events
  pub is : world ≡ after_events start events

-- the event of this index is the first that can't come where it stands
pub record IsFirstIllegal (start : World) (events : List Event) (index : ℕ) : Type 0 where
  pub come : CanAllCome start (take index events)
  pub event : Event
  pub there : slice_get events index ≡ Some event
  pub cannot : CanCome (after_events start (take index events)) event → ⊥

-- why there is no world behind the events
abbrev pub IsEndOf : World → List Event → WalkEnd → Type 0
IsEndOf start events (walk_end.Illegal index) = IsFirstIllegal start events index
IsEndOf start events walk_end.NoMemory = Unit {0}

-- ---- one event

-- the world is sound, and the image beside it stands for its log
pub record IsAt (w : Walker) : Type 0 where
  pub sound : IsSound w.world
  pub image : system_of w.image ≡ system_in w.world

-- the event may come, and leads from one world to the other, with its image
pub record Steps (old : Walker) (e : Event) (new : Walker) : Type 0 where
  pub can : CanCome old.world e
  pub after : new.world ≡ after_event old.world e
  pub image : system_of new.image ≡ system_in new.world

-- the event came, or it can't
abbrev pub StepsOrStops : {R : Type 0} → Walker → Event → Walker → Result R Stop → Type 0
StepsOrStops old e new (Ok done) = Steps old e new
StepsOrStops old e new (Err stop.Illegal) = CanCome old.world e → ⊥
StepsOrStops old e new (Err stop.NoMemory) = Unit {0}

-- the record in doubt was found in the log, or not, or nobody looked
pub record Reads (old new : Walker) (kept : Option Bool) : Type 0 where
  pub world : new.world ≡ record old.world { log = log_read old.world kept; doubt = doubt_read old.world kept }
  pub image : system_of new.image ≡ system_of_log (log_read old.world kept)
