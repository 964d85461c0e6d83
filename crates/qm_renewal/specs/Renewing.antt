-- The room of a row, and the key that a row may have of a job.
use Rattle.std.specs.Prelude.{ℕ, ◌+◌, if◌then◌else◌, length, Option, None, Some}
use Rattle.qm_model.specs.Common.{Entry, is_pending}
use Rattle.qm_match.specs.Keys.{key_of}
use Rattle.qm_match.specs.declared.order.Key.{Key}
use Rattle.qm_ready.specs.Rows.{Row}

-- for how many keys a row has room, those that it has counted among them
abbrev pub room_of : Row → ℕ
room_of row = length row.keys + row.spare

-- the key of a job that waits for nothing but its start
abbrev pub pending_key : Entry → Option Key
pending_key e = if is_pending e.state then Some (key_of e) else None
