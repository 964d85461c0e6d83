-- What the acts at the site ask for: every word.
-- OpenVMS System Services Reference Manual, $SNDJBC, on checkpoints and ends of jobs. This site's own: the words and their form.
use Rattle.std.specs.Prelude.{ℕ, nat_le, ◌+◌, ◌-◌, ◌*◌, ◌&&◌, if◌then◌else◌, List, [], ◌∷◌, length, codes, Option, None, Some, option_map, option_and_then, bytes_eq}
use Rattle.qm_model.specs.Common.{file_name_of, FileName, Input, cut_at_blank}
use Rattle.qm_kinds.specs.declared.input.Input.TheVariants as input
use Rattle.qm_kinds.specs.declared.refusal.ParseKind.TheVariants as parse
use Rattle.qm_kinds.specs.declared.request.Request.TheVariants as request
use Rattle.qm_model.specs.Script.{act_of, is_act_word, steps_in}

-- what has none of the forms
abbrev pub malformed : Input
malformed = input.Fault 0 parse.Form

-- what a digit says, of either case
abbrev pub hex_digit : ℕ → Option ℕ
hex_digit b =
    if nat_le 48 b && nat_le b 57 then Some (b - 48) else
    if nat_le 65 b && nat_le b 70 then Some (b - 55) else
    if nat_le 97 b && nat_le b 102 then Some (b - 87) else None

-- the byte of two digits
abbrev pub hex_byte : ℕ → ℕ → Option ℕ
hex_byte high low =
    option_and_then (λ (h : ℕ). option_map (λ (l : ℕ). h * 16 + l) (hex_digit low)) (hex_digit high)

-- the bytes of pairs of digits
abbrev pub hex_bytes : List ℕ → Option (List ℕ)
hex_bytes [] = Some []
hex_bytes (digit ∷ []) = None
hex_bytes (high ∷ low ∷ digits) =
    option_and_then (λ (b : ℕ). option_map (λ (bytes : List ℕ). b ∷ bytes) (hex_bytes digits)) (hex_byte high low)

-- BYTES file hex, with 1 to 65,536 bytes
abbrev pub bytes_by : Option FileName → Option (List ℕ) → Input
bytes_by None bytes = malformed
bytes_by (Some file) None = malformed
bytes_by (Some file) (Some bytes) =
    if nat_le 1 (length bytes) && nat_le (length bytes) 65536 then input.Ask (request.Append file bytes) else malformed

abbrev pub bytes_act : Option (List ℕ × List ℕ) → Input
bytes_act None = malformed
bytes_act (Some parts) = bytes_by (file_name_of parts.0) (hex_bytes parts.1)

-- STEP n fetches the node's runs
abbrev pub step_act : List ℕ → Option ℕ → Input
step_act known None = malformed
step_act known (Some steps) = input.Fetch known

-- a word alone
abbrev pub word_act : List ℕ → Input
word_act text =
    if bytes_eq text (codes "TICK") then input.Ask request.Tick else
    if bytes_eq text (codes "COMPACT") then input.Compact else
    if bytes_eq text (codes "STOP") then input.StopNode else
    if bytes_eq text (codes "START") then input.StartNode else malformed

-- A word, and behind a blank what it takes. STEP asks for what the node keeps, and the other words that are served for what they
-- do there.
abbrev pub act_with : List ℕ → List ℕ → Option (List ℕ × List ℕ) → Input
act_with known text None = word_act text
act_with known text (Some parts) =
    if bytes_eq parts.0 (codes "STEP") then step_act known (steps_in text) else
    if is_act_word parts.0 then act_of text else
    if bytes_eq parts.0 (codes "BYTES") then bytes_act (cut_at_blank parts.1) else malformed

-- what the text of an act asks for, at a node that keeps these runs
abbrev pub act_asked : List ℕ → List ℕ → Input
act_asked known text = act_with known text (cut_at_blank text)
