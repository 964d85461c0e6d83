-- How many entries name each file.
use Rattle.std.specs.Prelude.{◌≡◌, ◌+◌, ◌-◌, ℕ, List, if◌then◌else◌, count_by}
use Rattle.qm_model.specs.Common.{FileName, Entry, same_file_name}
use Rattle.qm_tables.specs.Spool.{Counted, count_of}

-- the count under each name is that of the entries that name the file
abbrev pub CountsOf : List Entry → List Counted → Type 0
CountsOf entries counts = (name : FileName) → count_of name counts ≡ count_by (λ e. same_file_name e.file name) entries

-- every name has the count that it had
abbrev pub SameCounts : List Counted → List Counted → Type 0
SameCounts old new = (name : FileName) → count_of name new ≡ count_of name old

-- one name has this count, and every other one the count that it had
abbrev pub IsCountedAs : FileName → ℕ → List Counted → List Counted → Type 0
IsCountedAs changed count old new = (name : FileName) → count_of name new ≡ (if same_file_name changed name then count else count_of name old)

-- one name is counted once more, and every other one as before
abbrev pub IsCountedMore : FileName → List Counted → List Counted → Type 0
IsCountedMore name old new = IsCountedAs name (count_of name old + 1) old new

-- one name is counted once less, and every other one as before
abbrev pub IsCountedLess : FileName → List Counted → List Counted → Type 0
IsCountedLess name old new = IsCountedAs name (count_of name old - 1) old new
