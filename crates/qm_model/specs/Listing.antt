-- The rows of a listing.
-- OpenVMS System Services Reference Manual, $GETQUI, on a search by entry number; DCL Dictionary, SHOW ENTRY.
use Rattle.std.specs.Prelude.{◌≡◌, IsSome, ℕ, List, [], ◌∷◌, Option, None, Some, Result, Ok, Err}
use Rattle.qm_kinds.specs.declared.entry.Entry.{Entry}
use Rattle.qm_kinds.specs.declared.query.Query.{Query}
use Rattle.qm_kinds.specs.declared.query.Listing.TheVariants.{Entries}
use Rattle.qm_kinds.specs.declared.query.Row.{Row}
use Rattle.qm_kinds.specs.declared.refusal.Refusal.{Refusal}
use Rattle.qm_kinds.specs.declared.refusal.Refusal.TheVariants.{NoSuchEntry}
use Rattle.qm_kinds.specs.declared.system.System.{System}
use Rattle.qm_kinds.specs.declared.query.Row.TheVariants as row
use Rattle.qm_model.specs.Find.{entry_numbered}

-- one entry is asked for, by its number
abbrev pub IsOfOneEntry : Query → Type 0
IsOfOneEntry q = (q.listing ≡ Entries) × IsSome q.number

-- the row of an entry that is asked for, if it is there
abbrev pub entry_row : ℕ → Option Entry → Result (List Row) Refusal
entry_row number None = Err (NoSuchEntry number)
entry_row number (Some entry) = Ok (row.Entry entry ∷ [])

-- the row of the entry of a number
abbrev pub rows_numbered : System → Option ℕ → Result (List Row) Refusal
rows_numbered s None = Ok []
rows_numbered s (Some number) = entry_row number (entry_numbered number s.entries)

-- the rows, or why there are none
abbrev pub rows_of : System → Query → Result (List Row) Refusal
rows_of s q = rows_numbered s q.number
