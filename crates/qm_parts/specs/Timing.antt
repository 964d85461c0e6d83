-- The timers of the entries of a queue.
use Rattle.std.specs.Prelude.{ℕ, Bool, false, not, List, bytes_eq}
use Rattle.std.specs.Option.{option_map_or}
use Rattle.qm_model.specs.Common.{Entry, entry_numbered}
use Rattle.qm_tables.specs.Timers.{KeepsNumbers}
use Rattle.qm_parts.specs.Tables.{Tables}

-- the entry of a number has this queue as its home
abbrev pub is_at_home : ℕ → List ℕ → List Entry → Bool
is_at_home number home entries = option_map_or (λ e. bytes_eq e.home home) (entry_numbered number entries) false

-- the entries of this home have no timer any more, and the others keep theirs
abbrev pub KeepsTimersElsewhere : List ℕ → Tables → Tables → Type 0
KeepsTimersElsewhere home old new = KeepsNumbers (λ number. not (is_at_home number home old.entries)) old.timers new.timers
