-- The room of what went, and of what comes.
use Rattle.std.specs.Prelude.{◌≡◌, ◌+◌, ◌-◌, ℕ, if◌then◌else◌, is_some, List, length}
use Rattle.qm_model.specs.Common.{Queue, queue_named}
use Rattle.qm_parts.specs.Tables.{Tables}

-- the room of forms that went is room for others
abbrev pub KeepsFormRoom : Tables → Tables → Type 0
KeepsFormRoom old new = new.spare_forms + length new.forms ≡ old.spare_forms + length old.forms

-- the room of characteristics that went is room for others
abbrev pub KeepsCharacteristicRoom : Tables → Tables → Type 0
KeepsCharacteristicRoom old new =
    new.spare_characteristics + length new.characteristics ≡ old.spare_characteristics + length old.characteristics

-- the room of timers that went is room for others
abbrev pub KeepsTimerRoom : Tables → Tables → Type 0
KeepsTimerRoom old new = new.spare_timers + length new.timers ≡ old.spare_timers + length old.timers

-- for how many more queues there is room once one of this name was put in: it takes the place of any other of its name
abbrev pub room_with : List ℕ → List Queue → ℕ → ℕ
room_with name queues room = if is_some (queue_named name queues) then room else room - 1

-- for how many more queues there is room once the one of this name went, if there is one
abbrev pub room_without : List ℕ → List Queue → ℕ → ℕ
room_without name queues room = if is_some (queue_named name queues) then room + 1 else room
