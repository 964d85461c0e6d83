-- The tag of an entry: a small number that follows from the name of its home.
use Rattle.std.specs.Prelude.{◌≡◌, ℕ, ◌+◌, ◌*◌, ◌%◌, List, map, slice_set, slice_index_or, fold}
use Rattle.qm_kinds.specs.declared.entry.Entry.{Entry}

-- the tag of a name that goes on with a byte
abbrev pub tag_behind : ℕ → ℕ → ℕ
tag_behind tag byte = (tag * 31 + byte) % 65536

-- the tag of a name: what is left in 16 bits of the number that its bytes spell to the base 31
unfoldable pub tag_of : List ℕ → ℕ
tag_of name = fold tag_behind 0 name

-- the tag of an entry: that of its home
abbrev pub entry_tag : Entry → ℕ
entry_tag e = tag_of e.home

-- the tags of entries, in their order
abbrev pub tags_of : List Entry → List ℕ
tags_of entries = map entry_tag entries

-- at one place the tag is that of the entry there, and all others are as they were
abbrev pub IsRetagged : List Entry → ℕ → List ℕ → List ℕ → Type 0
IsRetagged entries place old new = (any : Entry) → new ≡ slice_set old place (entry_tag (slice_index_or entries place any))
