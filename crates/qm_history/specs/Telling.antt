-- What a turn tells of the record in doubt.
-- This site's own: a takeover reads the files before it tries an epoch, so it knows then what has become of the record.
use Rattle.std.specs.Prelude.{◌≡◌, ◌+◌, is_some, List, [], ◌∷◌}
use Rattle.qm_history.specs.declared.event.Event.{Event}
use Rattle.qm_history.specs.declared.event.Event.TheVariants as event
use Rattle.qm_history.specs.declared.world.World.{World}

-- A takeover that stands, or that fails behind a new epoch, or with an event behind it, says whether the record is there, exactly
-- where one is in doubt.
abbrev pub TellsWhatItRead : World → List Event → Type 0
TellsWhatItRead w [] = Unit {0}
TellsWhatItRead w (event.Took node moment epoch gone up may kept ∷ events) = is_some kept ≡ is_some w.doubt
TellsWhatItRead w (event.TakeDoubt node tried kept ∷ []) = tried ≡ w.greatest + 1 → is_some kept ≡ is_some w.doubt
TellsWhatItRead w (event.TakeDoubt node tried kept ∷ e ∷ events) = is_some kept ≡ is_some w.doubt
TellsWhatItRead w (e ∷ events) = Unit {0}
