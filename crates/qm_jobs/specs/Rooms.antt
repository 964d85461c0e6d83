-- What stays where room is taken for an entry that is changed.
use Rattle.std.specs.Prelude.{◌≡◌}
use Rattle.qm_parts.specs.Tables.{Tables}

-- the tables are the same but for the room for timers, and that in the rows of ready jobs
abbrev pub DifferInRooms : Tables → Tables → Type 0
DifferInRooms old new = new ≡ record old { spare_timers = new.spare_timers; rooms = new.rooms }
