-- What an act at the site can add to a file.
-- This site's own: all of it.
use Rattle.std.specs.Prelude.{ℕ, nat_le, Bool, false, ◌&&◌, List, length, Option, None, Some}

-- an act adds so many bytes to a file
abbrev pub is_count : ℕ → Bool
is_count n = nat_le 1 n && nat_le n 65536

-- an act can add these bytes to a file
abbrev pub can_be_added : Option (List ℕ) → Bool
can_be_added None = false
can_be_added (Some bytes) = is_count (length bytes)
