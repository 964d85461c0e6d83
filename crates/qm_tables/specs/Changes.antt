-- What a change makes of an entry, and of the entries.
use Rattle.std.specs.Prelude.{ℕ, true, List, Some}
use Rattle.qm_model.specs.Common.{Entry, EntryState, with_entry}
use Rattle.qm_tables.specs.declared.entries.change.Change.{Change}
use Rattle.qm_tables.specs.declared.entries.change.Change.TheVariants.{State, Mark, Again, Home}

-- the entry in this state
abbrev pub with_state : EntryState → Entry → Entry
with_state state e = record e { state = state }

-- the entry with this last checkpoint
abbrev pub with_mark : List ℕ → Entry → Entry
with_mark mark e = record e { mark = mark }

-- the entry as one that was put back into its queue after a run
abbrev pub put_back : Entry → Entry
put_back e = record e { again = true }

-- the entry with this home
abbrev pub with_home : List ℕ → Entry → Entry
with_home home e = record e { home = home }

-- the entry with the one field that is set
abbrev pub changed_by : Change → Entry → Entry
changed_by (State state) e = with_state state e
changed_by (Mark mark) e = with_mark mark e
changed_by Again e = put_back e
changed_by (Home home) e = with_home home e

-- the entries, of which the one of this number is changed
abbrev pub with_changed : ℕ → (Entry → Entry) → List Entry → List Entry
with_changed number change entries = with_entry number (λ e. Some (change e)) entries
