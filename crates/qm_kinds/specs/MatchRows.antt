-- Rows of a table of matches: one for each end of a pattern, with a cell for each end of a text.
use Rattle.std.specs.Prelude.{◌≡◌, ◌≤◌, ◌<◌, ◌+◌, ◌==◌, ◌||◌, ◌&&◌, ℕ, Bool, false, List, length, drop, slice_index, slice_index_or}
use Rattle.qm_kinds.specs.Wildcards.{matches}

-- a cell of a row, false behind its end
abbrev pub cell : List Bool → ℕ → Bool
cell row k = slice_index_or row k false

-- whether % or another byte than * fits a byte
abbrev pub fits_byte : ℕ → ℕ → Bool
fits_byte p b = p == 37 || p == b

-- each cell says whether the pattern matches what is left of the text from its place on
pub record IsRowOf (pattern text : List ℕ) (row : List Bool) : Type 0 where
  pub each : (k : ℕ) → k ≤ length text → cell row k ≡ matches pattern (drop k text)

-- a cell of the row before a * holds where one of the row from its place on does
pub record IsRowBeforeStar (last : ℕ) (row before : List Bool) : Type 0 where
  pub final : cell before last ≡ cell row last
  pub earlier : (k : ℕ) → k < last → cell before k ≡ (cell row k || cell before (k + 1))

-- a cell of the row before a byte holds where the byte fits there and the next cell of the row holds
pub record IsRowBeforeByte (byte : ℕ) (text : List ℕ) (row before : List Bool) : Type 0 where
  pub final : cell before (length text) ≡ false
  pub earlier : (k : ℕ) → k < length text → cell before k ≡ (fits_byte byte (slice_index text k) && cell row (k + 1))
