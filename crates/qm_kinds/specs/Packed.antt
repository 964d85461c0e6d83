-- The names of an entry, packed one behind another.
use Rattle.std.specs.Prelude.{◌≡◌, ◌≤◌, ℕ, List, Option, None, Some, IfSome, slice_range}
use Rattle.qm_kinds.specs.Text.{IsText, is_name_byte}
use Rattle.qm_kinds.specs.declared.entry.Entry.{Entry}
use Rattle.qm_kinds.specs.declared.file.FileName.{FileName}
use Rattle.qm_kinds.specs.declared.packed.Span.{Span}
use Rattle.qm_kinds.specs.declared.packed.Spans.{Spans}

-- the names that an entry has
pub record EntryNames : Type 0 where
  pub home : List ℕ
  pub name : List ℕ
  pub user : List ℕ
  pub file : FileName
  pub form : Option (List ℕ)

-- the names of an entry
abbrev pub names_of : Entry → EntryNames
names_of e = record { home = e.home; name = e.name; user = e.user; file = e.file; form = e.form }

-- what stands at a span
abbrev pub text_at : List ℕ → Span → List ℕ
text_at bytes span = slice_range bytes span.from span.to

-- the same where there is a span
abbrev pub text_if_at : List ℕ → Option Span → Option (List ℕ)
text_if_at bytes None = None
text_if_at bytes (Some span) = Some (text_at bytes span)

-- what stands at the spans
abbrev pub names_at : List ℕ → Spans → EntryNames
names_at bytes s = record {
  home = text_at bytes s.home;
  name = text_at bytes s.name;
  user = text_at bytes s.user;
  file = record { name = text_at bytes s.file; extension = text_if_at bytes s.extension };
  form = text_if_at bytes s.form;
}

-- the span ends in front of a place
pub record IsWithin (end : ℕ) (span : Span) : Type 0 where
  pub order : span.from ≤ span.to
  pub within : span.to ≤ end

-- all spans do
pub record AreWithin (end : ℕ) (s : Spans) : Type 0 where
  pub home : IsWithin end s.home
  pub name : IsWithin end s.name
  pub user : IsWithin end s.user
  pub file : IsWithin end s.file
  pub extension : IfSome s.extension (IsWithin end)
  pub form : IfSome s.form (IsWithin end)

-- each of the names is one
pub record AreNames (n : EntryNames) : Type 0 where
  pub home : IsText is_name_byte n.home
  pub name : IsText is_name_byte n.name
  pub user : IsText is_name_byte n.user
  pub file : IsText is_name_byte n.file.name
  pub extension : IfSome n.file.extension (IsText is_name_byte)
  pub form : IfSome n.form (IsText is_name_byte)

-- what stands in front of a place is the same
abbrev pub Keeps : ℕ → List ℕ → List ℕ → Type 0
Keeps end old new = (from to : ℕ) → from ≤ to → to ≤ end → slice_range new from to ≡ slice_range old from to
