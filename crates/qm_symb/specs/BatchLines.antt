-- What a line that was read means.
use Rattle.std.specs.Prelude.{◌≤◌, ℕ, List, [], ◌∷◌, ◌++◌, codes, length, if◌then◌else◌, Option, None, Some, option_and_then}
use Rattle.qm_model.specs.Texts.{value_of}
use Rattle.qm_model.specs.Batch.{BatchLine, is_mark, is_status, has_no_quote, only_if, behind, ahead_of}
use Rattle.qm_model.specs.Batch as batch
use Rattle.qm_symb.specs.declared.batch.line.Line.{Line}
use Rattle.qm_symb.specs.declared.batch.line.Line.TheVariants as line

-- the text that a line writes
abbrev pub text_written : List ℕ → Option (List ℕ)
text_written line = option_and_then (only_if has_no_quote) (option_and_then (ahead_of (34 ∷ [])) (behind (codes "$ WRITE SYS$OUTPUT " ++ 34 ∷ []) line))

-- the mark that a line sets
abbrev pub mark_set : List ℕ → Option (List ℕ)
mark_set line = option_and_then (only_if is_mark) (behind (codes "$ SET RESTART_VALUE = ") line)

-- the status that a text says
abbrev pub status_of : List ℕ → Option ℕ
status_of text = if is_status text then Some (value_of text) else None

-- a line, as the definitions have it
abbrev pub meaning : Line → BatchLine
meaning line.Nothing = batch.Nothing
meaning (line.Write text) = batch.Write text.now
meaning (line.SetRestart text) = batch.SetRestart text.now
meaning (line.GoTo label) = batch.GoTo label.now
meaning line.GoToRestart = batch.GoToRestart
meaning (line.Exit status) = batch.Exit status
meaning line.Bad = batch.Bad

-- a text that a line of these bytes writes isn't longer than the line, and a mark that it sets isn't too long
abbrev pub IsShort : List ℕ → Line → Type 0
IsShort bytes line.Nothing = Unit {0}
IsShort bytes (line.Write text) = length text.now ≤ length bytes
IsShort bytes (line.SetRestart text) = length text.now ≤ 255
IsShort bytes (line.GoTo label) = Unit {0}
IsShort bytes line.GoToRestart = Unit {0}
IsShort bytes (line.Exit status) = Unit {0}
IsShort bytes line.Bad = Unit {0}
