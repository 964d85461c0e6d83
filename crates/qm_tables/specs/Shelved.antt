-- The entries of a shelf, among boxes of which the first are gone.
use Rattle.std.specs.Prelude.{ℕ, List, drop}
use Rattle.qm_kinds.specs.declared.entry.Entry.{Entry}
use Rattle.qm_tables.specs.declared.entries.tagged.Tagged.{Tagged}
use Rattle.qm_tables.specs.Boxed.{contents}

-- the entries behind those that are gone
abbrev pub shelved : ℕ → Tagged → List Entry
shelved gone row = drop gone (contents row.boxes.items)
