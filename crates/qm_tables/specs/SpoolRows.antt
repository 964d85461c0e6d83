-- The files as a spool keeps them.
use Rattle.std.specs.Prelude.{◌≡◌, ◌+◌, ◌-◌, ◌<◌, ◌≤◌, ℕ, List, ◌++◌, map, slice_set, vec_len, vec_capacity, HoldsAt}
use Rattle.qm_model.specs.Common.{File, AreFiles, spooled}
use Rattle.qm_tables.specs.declared.spool.spooled.Spooled.{Spooled}
use Rattle.qm_tables.specs.Spool.{Counted, Kept}

-- the file that is kept
abbrev pub file_of : Spooled → File
file_of f = record { name = f.name; bytes = f.bytes.items }

-- how many entries name it
abbrev pub naming_of : Spooled → Counted
naming_of f = record { name = f.name; count = f.named }

-- for how many bytes more it has room
abbrev pub room_of : Spooled → Counted
room_of f = record { name = f.name; count = vec_capacity f.bytes - vec_len f.bytes }

-- the files that are kept, as callers see them
abbrev pub kept_of : List Spooled → ℕ → Kept
kept_of files spare = record { files = map file_of files; counts = map naming_of files; rooms = map room_of files; spare = spare }

-- the files are those that a site can have, and all their bytes are counted
pub record AreSpooled (items : List Spooled) (size : ℕ) : Type 0 where
  pub files : AreFiles (map file_of items)
  pub counted : size ≡ spooled (map file_of items)

-- one file is replaced, in the way that the relation says
pub record Replaces (old new : List Spooled) (place : ℕ) (Change : Spooled → Spooled → Type 0) : Type 0 where
  pub file : Spooled
  pub is : new ≡ slice_set old place file
  pub change : HoldsAt (λ f. Change f file) old place

-- more bytes stand behind those that were there
pub record IsExtended (more : List ℕ) (f g : Spooled) : Type 0 where
  pub name : g.name ≡ f.name
  pub bytes : g.bytes.items ≡ f.bytes.items ++ more
  pub named : g.named ≡ f.named

-- the same file, named by so many entries
abbrev pub named_by : ℕ → Spooled → Spooled
named_by named f = record f { named = named }

-- the file has room for so many bytes more
abbrev pub HasRoom : ℕ → Spooled → Type 0
HasRoom more f = vec_len f.bytes + more ≤ vec_capacity f.bytes

-- the file has room for fewer
abbrev pub LacksRoom : ℕ → Spooled → Type 0
LacksRoom more f = vec_capacity f.bytes < vec_len f.bytes + more
