-- The lines of a batch job.
-- This site's own few forms of command lines. OpenVMS User's Manual, on command procedures, $RESTART and BATCH$RESTART; DCL Dictionary, SUBMIT, /RESTART.
use Rattle.std.specs.Prelude.{ℕ, nat_eq, ◌==◌, ◌+◌, ◌-◌, nat_lt, nat_le, Bool, false, ◌&&◌, ◌||◌, not, if◌then◌else◌, List, [], ◌∷◌, ◌++◌, length, take, drop, position, slice_get, Option, None, Some, codes, bytes_eq}
use Rattle.std.specs.List.{list_all, list_any, starts_with, ends_with}
use Rattle.std.specs.Option.{option_map, option_map_or, option_and_then}
use Rattle.std.specs.Char.{is_ascii_digit}
use Rattle.qm_kinds.specs.Text.{is_name_byte}
use Rattle.qm_model.specs.Texts.{value_of}

-- what a line asks for
pub data BatchLine : Type 0 where
  Nothing : BatchLine
  Write : List ℕ → BatchLine
  SetRestart : List ℕ → BatchLine
  GoTo : List ℕ → BatchLine
  GoToRestart : BatchLine
  Exit : ℕ → BatchLine
  Bad : BatchLine

-- what stands behind a beginning, if the text begins so
abbrev pub behind : List ℕ → List ℕ → Option (List ℕ)
behind beginning text = if starts_with nat_eq text beginning then Some (drop (length beginning) text) else None

-- what stands before an end, if the text ends so
abbrev pub ahead_of : List ℕ → List ℕ → Option (List ℕ)
ahead_of end text = if ends_with nat_eq text end then Some (take (length text - length end) text) else None

-- the text, if it passes
abbrev pub only_if : (List ℕ → Bool) → List ℕ → Option (List ℕ)
only_if test text = if test text then Some text else None

-- a label is a name in capitals
abbrev pub is_label : List ℕ → Bool
is_label text = nat_lt 0 (length text) && nat_le (length text) 39 && list_all is_name_byte text

-- digits, without a 0 in front of others
abbrev pub is_number : List ℕ → Bool
is_number text = nat_lt 0 (length text) && list_all is_ascii_digit text && (length text == 1 || not (starts_with nat_eq text (48 ∷ [])))

-- a status has 32 bits
abbrev pub is_status : List ℕ → Bool
is_status text = is_number text && nat_le (value_of text) 4294967295

-- a mark has 1 to 255 bytes
abbrev pub is_mark : List ℕ → Bool
is_mark text = nat_lt 0 (length text) && nat_le (length text) 255

-- a text that has no quote
abbrev pub has_no_quote : List ℕ → Bool
has_no_quote text = not (list_any (λ b. b == 34) text)

-- $ WRITE SYS$OUTPUT "text"
abbrev pub write_line : List ℕ → Option BatchLine
write_line line =
    option_map (λ text. Write text)
    (option_and_then (only_if has_no_quote) (option_and_then (ahead_of (34 ∷ [])) (behind (codes "$ WRITE SYS$OUTPUT " ++ 34 ∷ []) line)))

-- $ SET RESTART_VALUE = text
abbrev pub restart_value_line : List ℕ → Option BatchLine
restart_value_line line = option_map (λ text. SetRestart text) (option_and_then (only_if is_mark) (behind (codes "$ SET RESTART_VALUE = ") line))

-- the label of the line $ label:
abbrev pub label_of : List ℕ → Option (List ℕ)
label_of line = option_and_then (only_if is_label) (option_and_then (ahead_of (codes ":")) (behind (codes "$ ") line))

-- a label asks for nothing
abbrev pub label_line : List ℕ → Option BatchLine
label_line line = option_map (λ label. Nothing) (label_of line)

-- $ GOTO label
abbrev pub goto_line : List ℕ → Option BatchLine
goto_line line = option_map (λ label. GoTo label) (option_and_then (only_if is_label) (behind (codes "$ GOTO ") line))

-- $ IF $RESTART THEN GOTO 'BATCH$RESTART'
abbrev pub goto_restart_line : List ℕ → Option BatchLine
goto_restart_line line = if bytes_eq line (codes "$ IF $RESTART THEN GOTO 'BATCH$RESTART'") then Some GoToRestart else None

-- $ EXIT n
abbrev pub exit_line : List ℕ → Option BatchLine
exit_line line = option_map (λ digits. Exit (value_of digits)) (option_and_then (only_if is_status) (behind (codes "$ EXIT ") line))

-- an empty line, and a comment
abbrev pub comment_line : List ℕ → Option BatchLine
comment_line line = if length line == 0 || starts_with nat_eq line (codes "$!") then Some Nothing else None

-- the first form that the line has
abbrev pub first_form_of : List (Option BatchLine) → BatchLine
first_form_of [] = Bad
first_form_of (None ∷ others) = first_form_of others
first_form_of (Some line ∷ others) = line

-- what the line asks for; a line of no form is a bad one
abbrev pub batch_line : List ℕ → BatchLine
batch_line line = first_form_of
    (comment_line line
    ∷ write_line line
    ∷ restart_value_line line
    ∷ label_line line
    ∷ goto_line line
    ∷ goto_restart_line line
    ∷ exit_line line
    ∷ [])

-- the line is the label
abbrev pub is_label_line : List ℕ → List ℕ → Bool
is_label_line label line = option_map_or (bytes_eq label) (label_of line) false

-- where the first line with the label stands
abbrev pub place_of_label : List ℕ → List (List ℕ) → Option ℕ
place_of_label label lines = position (is_label_line label) lines

-- What comes of a line: a block may go to the device, and the run goes on at a line, after a checkpoint or without
-- one, or ends with a status.
pub data BatchMove : Type 0 where
  GoOn : ℕ → BatchMove
  Output : List ℕ → ℕ → BatchMove
  SaveMark : List ℕ → ℕ → BatchMove
  EndRun : ℕ → BatchMove

-- the status of a run that goes to its end
abbrev pub normal_status : ℕ
normal_status = 1

-- the status of a run that reads too many lines
abbrev pub line_limit_status : ℕ
line_limit_status = 1036

-- the status of a run that is to go on at a label that isn't there
abbrev pub no_label_status : ℕ
no_label_status = 1044

-- the status of a run that meets a line of no form
abbrev pub bad_line_status : ℕ
bad_line_status = 1052

-- the run goes on at a place, or there is no such label
abbrev pub move_to : Option ℕ → BatchMove
move_to None = EndRun no_label_status
move_to (Some at) = GoOn at

-- what a line at this place comes to, in a run that began with this mark and may be a second one
abbrev pub move_of : List (List ℕ) → Bool → List ℕ → ℕ → BatchLine → BatchMove
move_of all again mark at Nothing = GoOn (at + 1)
move_of all again mark at (Write text) = Output (text ++ 10 ∷ []) (at + 1)
move_of all again mark at (SetRestart text) = SaveMark text (at + 1)
move_of all again mark at (GoTo label) = move_to (place_of_label label all)
move_of all again mark at GoToRestart = if again && nat_lt 0 (length mark) then move_to (place_of_label mark all) else GoOn (at + 1)
move_of all again mark at (Exit status) = EndRun status
move_of all again mark at Bad = EndRun bad_line_status

-- behind the last line a run ends well
abbrev pub move_at : List (List ℕ) → Bool → List ℕ → ℕ → BatchMove
move_at all again mark at = option_map_or (λ line. move_of all again mark at (batch_line line)) (slice_get all at) (EndRun normal_status)
