-- The files of a spool: what its callers see, and what the calls make of it.
use Rattle.std.specs.Prelude.{◌≡◌, ◌≤◌, ◌+◌, ◌||◌, nat_lt, ℕ, ◌++◌, Bool, false, List, length, find, Option, IsSome}
use Rattle.std.specs.Option.{option_map, option_map_or}
use Rattle.qm_model.specs.Common.{FileName, File, same_file_name, file_named, bytes_of, with_file, is_spool_full, spooled}
use Rattle.qm_kinds.specs.declared.limits.TheConstants.{FILE_LIMIT, SPOOL_LIMIT}

-- what is counted of the file of a name
pub record Counted : Type 0 where
  pub name : FileName
  pub count : ℕ

-- the count under a name, 0 where there is none
abbrev pub count_of : FileName → List Counted → ℕ
count_of name counts = option_map_or (λ c. c.count) (find (λ c. same_file_name c.name name) counts) 0

-- the files by name, how many entries name each, for how many bytes more each has room, and for how many files more there is
pub record Kept : Type 0 where
  pub files : List File
  pub counts : List Counted
  pub rooms : List Counted
  pub spare : ℕ

-- the bytes of the file of a name, if there is such a file
abbrev pub bytes_named : FileName → List File → Option (List ℕ)
bytes_named name files = option_map (λ f. f.bytes) (file_named name files)

-- the files, in which these bytes stand behind those of the one of the name, which is made where it isn't there
abbrev pub with_bytes : FileName → List ℕ → List File → List File
with_bytes name more files = with_file (record { name = name; bytes = bytes_of name files ++ more }) files

-- with so many more bytes a file of this size, or all files together, would pass their limit
abbrev pub is_too_much : ℕ → ℕ → List File → Bool
is_too_much size more files = nat_lt FILE_LIMIT (size + more) || nat_lt SPOOL_LIMIT (spooled files + more)

-- the file is there, has room for the bytes, and they pass no limit
pub record HasRoomFor (kept : Kept) (name : FileName) (more : List ℕ) : Type 0 where
  pub there : IsSome (file_named name kept.files)
  pub room : length more ≤ count_of name kept.rooms
  pub fits : is_spool_full name (length more) kept.files ≡ false
