-- Sizes and statuses.
use Rattle.std.specs.Prelude.{ℕ, ◌+◌, ◌/◌, ◌%◌, ◌==◌, max, Bool}

-- the blocks of 512 bytes that hold so many bytes, and at least one
abbrev pub blocks_of : ℕ → ℕ
blocks_of bytes = max 1 ((bytes + 511) / 512)

-- a status is a success where it is odd
abbrev pub is_success : ℕ → Bool
is_success status = status % 2 == 1
