-- What a line of a script asks for.
-- DCL Dictionary; OpenVMS System Services Reference Manual, $SNDJBC and $GETQUI. This site's own: acts at the site, and item lists
-- in hexadecimal.
use Rattle.std.specs.Prelude.{ℕ, nat_le, Bool, ◌&&◌, ◌||◌, if◌then◌else◌, is_some, List, Option, None, Some, option_and_then}
use Rattle.qm_model.specs.Common.{Input, cut_at_blank}
use Rattle.qm_kinds.specs.declared.input.Input.TheVariants as input
use Rattle.qm_kinds.specs.declared.refusal.ParseKind.TheVariants as parse
use Rattle.qm_kinds.specs.Requests.{request_kind}
use Rattle.qm_model.specs.Script.{act_number}
use Rattle.qm_history.specs.Acts.{act_asked, hex_bytes, malformed}
use Rattle.qm_history.specs.Scans.{Scans, scanned, scans_of}
use Rattle.qm_history.specs.Script.{UserLine, LineSort, Command, Items, Act}
use Rattle.qm_history.specs.Visits.{Visit}

-- a function of requests, or of listings
abbrev pub is_function : ℕ → Bool
is_function n = is_some (request_kind n) || nat_le 41 n && nat_le n 47

-- the function that a number names
abbrev pub function_of : List ℕ → Option ℕ
function_of text = option_and_then (λ (n : ℕ). if is_function n then Some n else None) (act_number 65535 text)

-- an input of an item list, where the node has begun these listings
abbrev pub with_scans : Scans → Input → Input
with_scans s (input.Show q) = input.Show (scanned s q q.single)
with_scans s (input.Ask asked) = input.Ask asked
with_scans s (input.Fetch known) = input.Fetch known
with_scans s input.Compact = input.Compact
with_scans s (input.TakeManager on) = input.TakeManager on
with_scans s input.StartNode = input.StartNode
with_scans s input.StopNode = input.StopNode
with_scans s (input.Fault place kind) = input.Fault place kind

-- What the bytes of an item list mean in the call of a function by a user, and what the text of a command of a user asks for that is read
-- at a moment, is all that isn't said here.
module _ (items_mean : ℕ → List ℕ → List ℕ → Input) where
  -- a function, and the bytes of its items
  abbrev pub items_by : List ℕ → Scans → Option ℕ → Option (List ℕ) → Input
  items_by user s None bytes = malformed
  items_by user s (Some function) None = input.Fault 0 parse.Hex
  items_by user s (Some function) (Some bytes) = with_scans s (items_mean function bytes user)

  -- a function number, a blank and the bytes in hexadecimal
  abbrev pub items_from : List ℕ → Scans → Option (List ℕ × List ℕ) → Input
  items_from user s None = malformed
  items_from user s (Some parts) = items_by user s (function_of parts.0) (hex_bytes parts.1)

  module _ (command_means : List ℕ → ℕ → List ℕ → Input) where
    -- what a text of a sort asks for that is read at a moment
    abbrev pub text_asked : LineSort → List ℕ → ℕ → List ℕ → Scans → List ℕ → Input
    text_asked Command user reading text s known = command_means user reading text
    text_asked Items user reading text s known = items_from user s (cut_at_blank text)
    text_asked Act user reading text s known = act_asked known text

    -- What a line asks for: by its text and its user; for a command, by what the node's clock told, from which relative times count;
    -- for an item list, by the listings that the node has begun in its turns; and for STEP, by the runs that it keeps.
    abbrev pub read : UserLine → ℕ → List Visit → List ℕ → Input
    read l reading earlier known = text_asked l.line.sort l.user reading l.line.text (scans_of earlier) known
