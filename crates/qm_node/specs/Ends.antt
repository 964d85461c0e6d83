-- What an end tells of the files and of the sink.
-- OpenVMS System Manager's Manual, Managing the Queue Manager and Queue Database. This site's own: the ends.
use Rattle.std.specs.Prelude.{◌≡◌, ℕ, List, ◌++◌, Option, Result, Ok, Err}
use Rattle.std.specs.Io.KnownBytes.{Appends}
use Rattle.qm_disk.specs.Faults.{counted}
use Rattle.qm_node.specs.declared.turn.TurnEnd.{TurnEnd}
use Rattle.qm_node.specs.declared.turn.TurnEnd.TheVariants as end

-- no file is told as one that isn't sound
abbrev pub IsUndamaged : TurnEnd → Type 0
IsUndamaged end.Write = Unit {0}
IsUndamaged end.HistoryFull = Unit {0}
IsUndamaged (end.Damaged file place) = ⊥
IsUndamaged end.NoMemory = Unit {0}

-- the count of the sink's failed calls: one more where that is the end, and else as it was
abbrev pub TellsWrite : {T : Type 0} → ℕ → ℕ → Result T TurnEnd → Type 0
TellsWrite old new (Ok done) = new ≡ old
TellsWrite old new (Err end.Write) = new ≡ counted old
TellsWrite old new (Err end.HistoryFull) = new ≡ old
TellsWrite old new (Err (end.Damaged file place)) = new ≡ old
TellsWrite old new (Err end.NoMemory) = new ≡ old

-- a sink took first bytes of a text: none, some or all
abbrev pub TakesFront : Option (List ℕ) → Option (List ℕ) → List ℕ → Type 0
TakesFront old new text = (front : List ℕ) × (rest : List ℕ) × (text ≡ front ++ rest) × Appends old new front
