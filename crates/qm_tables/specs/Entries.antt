-- The entries of a table: what its callers see.
use Rattle.std.specs.Prelude.{ℕ, nat_lt, not, List, filter, find, Option, None, bytes_eq}
use Rattle.qm_model.specs.Common.{Entry, is_over, with_entry}

-- the entries in order of their numbers, and how many more have room: one or none
pub record Kept : Type 0 where
  pub entries : List Entry
  pub spare : ℕ

-- the first entry whose number is greater than this one
abbrev pub entry_after : ℕ → List Entry → Option Entry
entry_after number entries = find (λ e. nat_lt number e.number) entries

-- the entries but that of a number
abbrev pub without_entry : ℕ → List Entry → List Entry
without_entry number entries = with_entry number (λ e. None) entries

-- the entries but those that are retained until a moment that has come
abbrev pub without_over : ℕ → List Entry → List Entry
without_over now entries = filter (λ e. not (is_over now e.state)) entries

-- the entries but those of a home
abbrev pub without_home : List ℕ → List Entry → List Entry
without_home home entries = filter (λ e. not (bytes_eq e.home home)) entries
