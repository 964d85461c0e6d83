-- A script: lines for the nodes of a site.
-- This site's own: the form of a script. OpenVMS User's Manual, on command procedures, for the `$` in front of a command.
use Rattle.std.specs.Prelude.{ℕ, nat_eq, ◌==◌, ◌+◌, nat_lt, nat_le, Bool, ◌&&◌, ◌||◌, not, if◌then◌else◌, List, [], ◌∷◌, ◌++◌, length, Option, None, Some, Result, Err, codes, ok_or, option_map, option_and_then, bytes_eq}
use Rattle.std.specs.List.{list_all, slice_split, ends_with}
use Rattle.qm_kinds.specs.Files.{name_of, file_name_of}
use Rattle.qm_kinds.specs.declared.file.FileName.{FileName}
use Rattle.qm_kinds.specs.declared.input.Input.{Input}
use Rattle.qm_kinds.specs.declared.input.Input.TheVariants.{Ask, Fetch, Fault}
use Rattle.qm_kinds.specs.declared.request.Request.TheVariants.{Append, Fill, Drop, Mark, Done, Tick}
use Rattle.qm_kinds.specs.declared.name.TheConstants.{NODE_NAME_BYTES}
use Rattle.qm_kinds.specs.declared.script.ScriptKind.{ScriptKind}
use Rattle.qm_kinds.specs.declared.script.ScriptKind.TheVariants.{Form, Long}
use Rattle.qm_kinds.specs.declared.refusal.ParseKind.TheVariants as parse
use Rattle.qm_model.specs.Texts.{cut_at_blank, value_of}
use Rattle.qm_model.specs.Batch.{is_number, is_mark}

-- a command, or an act at the site
pub data Sort : Type 0 where
  Command : Sort
  Site : Sort

-- a line of a script: its number, counted from 1, its node, its sort, and what stands behind the sort
pub record ScriptLine : Type 0 where
  pub number : ℕ
  pub node : List ℕ
  pub sort : Sort
  pub text : List ℕ

-- a byte that can be printed, or a blank
abbrev pub is_line_byte : ℕ → Bool
is_line_byte b = nat_le 32 b && nat_le b 126

-- `$`, a blank and a command that doesn't end in `-`; or `!`, a blank and an act
abbrev pub sorted : ℕ → List ℕ → List ℕ → Option ScriptLine
sorted number node [] = None
sorted number node (mark ∷ []) = None
sorted number node (mark ∷ blank ∷ text) =
    if not (blank == 32) then None else
    if mark == 33 then Some (record { number = number; node = node; sort = Site; text = text }) else
    if mark == 36 && not (ends_with nat_eq text (45 ∷ [])) then Some (record { number = number; node = node; sort = Command; text = text }) else None

-- a name that a node can have
abbrev pub node_name_of : List ℕ → Option (List ℕ)
node_name_of text = option_and_then (λ name. if nat_le (length name) NODE_NAME_BYTES then Some name else None) (name_of text)

-- the node, a blank, and the rest
abbrev pub line_of : ℕ → List ℕ → Option ScriptLine
line_of number text =
    if not (list_all is_line_byte text) then None else
    option_and_then (λ parts. option_and_then (λ node. sorted number node parts.1) (node_name_of parts.0)) (cut_at_blank text)

-- the lines that aren't empty, of the parts between line feeds, of which the last has to be empty
abbrev pub lines_from : ℕ → List (List ℕ) → Option (List ScriptLine)
lines_from number [] = Some []
lines_from number (part ∷ []) = if length part == 0 then Some [] else None
lines_from number (part ∷ next ∷ parts) =
    if length part == 0 then lines_from (number + 1) (next ∷ parts) else
    option_and_then (λ line. option_map (λ lines. line ∷ lines) (lines_from (number + 1) (next ∷ parts))) (line_of number part)

-- the lines of a script, or what is wrong with it
abbrev pub script_of : List ℕ → Result (List ScriptLine) ScriptKind
script_of bytes =
    if nat_lt 16777216 (length bytes) then Err Long else
    ok_or (lines_from 1 (slice_split (λ b. b == 10) bytes)) Form

-- the text and a line feed go to the end of the file
abbrev pub append_to : Option FileName → List ℕ → Input
append_to None text = Fault 0 parse.Form
append_to (Some file) text = Ask (Append file (text ++ 10 ∷ []))

-- LINE file text
abbrev pub line_act : Option (List ℕ × List ℕ) → Input
line_act None = Fault 0 parse.Form
line_act (Some parts) = append_to (file_name_of parts.0) parts.1

-- the number that digits say, without a 0 in front of others, where it isn't above the most
abbrev pub act_number : ℕ → List ℕ → Option ℕ
act_number most text = if is_number text && nat_le (value_of text) most then Some (value_of text) else None

-- a run of 64 bits has ended with a status of 32
abbrev pub done_by : Option ℕ → Option ℕ → Input
done_by None status = Fault 0 parse.Form
done_by (Some run) None = Fault 0 parse.Form
done_by (Some run) (Some status) = Ask (Done run status)

-- DONE run status
abbrev pub done_act : Option (List ℕ × List ℕ) → Input
done_act None = Fault 0 parse.Form
done_act (Some parts) = done_by (act_number 18446744073709551615 parts.0) (act_number 4294967295 parts.1)

-- a run of 64 bits has reached this mark
abbrev pub marked_by : Option ℕ → List ℕ → Input
marked_by None mark = Fault 0 parse.Form
marked_by (Some run) mark = if is_mark mark then Ask (Mark run mark) else Fault 0 parse.Form

-- MARK run text, where the text is all behind one blank, 1 to 255 bytes
abbrev pub mark_act : Option (List ℕ × List ℕ) → Input
mark_act None = Fault 0 parse.Form
mark_act (Some parts) = marked_by (act_number 18446744073709551615 parts.0) parts.1

-- how many steps may be made: one at least
abbrev pub some_steps : Option ℕ → Option ℕ
some_steps steps = option_and_then (λ n. if n == 0 then None else Some n) steps

-- a number of steps, from 1 to 100,000
abbrev pub step_number : List ℕ → Option ℕ
step_number text = some_steps (act_number 100000 text)

-- STEP n
abbrev pub steps_in : List ℕ → Option ℕ
steps_in text = option_and_then (λ parts. if bytes_eq parts.0 (codes "STEP") then step_number parts.1 else None) (cut_at_blank text)

-- the runs of the node are asked for
abbrev pub step_act : Option ℕ → Input
step_act None = Fault 0 parse.Form
step_act (Some steps) = Fetch []

-- so many lines of letters go to the end of the file: one at least
abbrev pub filled_by : Option FileName → Option ℕ → Input
filled_by None lines = Fault 0 parse.Form
filled_by (Some file) None = Fault 0 parse.Form
filled_by (Some file) (Some lines) = if lines == 0 then Fault 0 parse.Form else Ask (Fill file lines)

-- FILL file n, with 1 to 1,024 lines
abbrev pub fill_act : Option (List ℕ × List ℕ) → Input
fill_act None = Fault 0 parse.Form
fill_act (Some parts) = filled_by (file_name_of parts.0) (act_number 1024 parts.1)

-- DROP file
abbrev pub drop_act : Option FileName → Input
drop_act None = Fault 0 parse.Form
drop_act (Some file) = Ask (Drop file)

-- the word of an act that is built
abbrev pub is_act_word : List ℕ → Bool
is_act_word word =
    bytes_eq word (codes "LINE") || bytes_eq word (codes "FILL") || bytes_eq word (codes "DROP") || bytes_eq word (codes "STEP")
    || bytes_eq word (codes "MARK") || bytes_eq word (codes "DONE") || bytes_eq word (codes "TICK")

-- an act whose word is or isn't built takes something else
abbrev pub malformed_act : List ℕ → Input
malformed_act word = if is_act_word word then Fault 0 parse.Form else Fault 0 parse.NotBuilt

-- the acts that are built: TICK alone; and each other word with what it takes behind a blank
abbrev pub act_from : List ℕ → Option (List ℕ × List ℕ) → Input
act_from text None = if bytes_eq text (codes "TICK") then Ask Tick else malformed_act text
act_from text (Some parts) =
    if bytes_eq parts.0 (codes "LINE") then line_act (cut_at_blank parts.1)
    else if bytes_eq parts.0 (codes "FILL") then fill_act (cut_at_blank parts.1)
    else if bytes_eq parts.0 (codes "DROP") then drop_act (file_name_of parts.1)
    else if bytes_eq parts.0 (codes "STEP") then step_act (step_number parts.1)
    else if bytes_eq parts.0 (codes "MARK") then mark_act (cut_at_blank parts.1)
    else if bytes_eq parts.0 (codes "DONE") then done_act (cut_at_blank parts.1)
    else malformed_act parts.0

-- what the text of an act asks for
abbrev pub act_of : List ℕ → Input
act_of text = act_from text (cut_at_blank text)
