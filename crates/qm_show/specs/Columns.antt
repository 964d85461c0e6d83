-- The columns of an entry.
use Rattle.std.specs.Prelude.{ℕ, List, ◌++◌, decimal, codes}
use Rattle.qm_kinds.specs.declared.entry.Entry.{Entry}
use Rattle.qm_model.specs.Words.{at_left, at_right}

-- what stands before the status: number, name, user and size, each with a blank behind it
abbrev pub columns_text : Entry → List ℕ
columns_text e =
    at_right 6 (decimal e.number) ++ codes " " ++ at_left 16 e.name ++ codes " " ++ at_left 12 e.user ++ codes " "
    ++ at_right 8 (decimal e.size) ++ codes " "
