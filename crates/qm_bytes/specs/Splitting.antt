-- Bytes that are parted into a value's spelling and what stands behind it.
use Rattle.std.specs.Prelude.{◌≡◌, ℕ, ◌+◌, ◌<◌, ◌^◌, List, ◌++◌, length, drop}
use Rattle.qm_bytes.specs.Spelling.{low_first, short_bytes, IsName}

-- from one place to another the bytes are this text
abbrev pub StandsBetween : ℕ → ℕ → List ℕ → List ℕ → Type 0
StandsBetween at next text bytes = drop at bytes ≡ text ++ drop next bytes

-- so many bytes in front spell the number
pub record IsSplit (count : ℕ) (bytes : List ℕ) (number : ℕ) (rest : List ℕ) : Type 0 where
  pub parts : bytes ≡ low_first count number ++ rest
  pub fits : number < 256 ^ count

-- so many bytes in front are the name
pub record IsAhead (count : ℕ) (name bytes : List ℕ) : Type 0 where
  pub parts : bytes ≡ name ++ drop count bytes
  pub count_is : length name ≡ count
  pub lawful : IsName name

-- the spelling of the name stands in front
pub record IsInFront (name bytes : List ℕ) : Type 0 where
  pub parts : bytes ≡ short_bytes name ++ drop (length name + 1) bytes
  pub lawful : IsName name
