-- What the values of commands say.
-- OpenVMS User's Manual, on entering commands: names, numbers, quoted strings and times. DCL Dictionary, INITIALIZE/QUEUE, on /ON,
-- /SCHEDULE and /RETAIN, SUBMIT, on /RETAIN, and DEFINE/FORM, on /MARGIN.
use Rattle.std.specs.Prelude.{ℕ, ◌+◌, ◌-◌, ◌==◌, nat_lt, nat_le, Bool, true, false, ◌&&◌, ◌||◌, if◌then◌else◌, List, [], ◌∷◌, length, take, drop, map, position, codes, Option, None, Some, option_map, option_and_then, bytes_eq}
use Rattle.std.specs.List.{list_all}
use Rattle.std.specs.Char.{is_ascii_digit, to_ascii_uppercase}
use Rattle.std.specs.Result.{result_ok}
use Rattle.qm_model.specs.Common.{name_of, JobRetain, NODE_NAME_BYTES, QueueRetain, NameOrNumber, Name, Number, is_short, is_definable, value_of}
use Rattle.qm_kinds.specs.Text.{text_of, is_pattern_byte}
use Rattle.qm_kinds.specs.declared.entry.JobRetain.TheVariants as retain
use Rattle.qm_kinds.specs.declared.queue.QueueRetain.TheVariants.{Failed, All}
use Rattle.qm_commands.specs.declared.tokens.token.Token.{Token}
use Rattle.qm_commands.specs.Spelled.{is_word, bytes_of}
use Rattle.qm_time.specs.Moments.{moment_at}
use Rattle.qm_dcl.specs.declared.value.Location.{Location}
use Rattle.qm_dcl.specs.declared.value.Side.{Side}
use Rattle.qm_dcl.specs.declared.value.Side.TheVariants.{Top, Bottom, Left, Right}

-- What stands between the quotes of a string. Two quotes that stand for one stay two: no value that is built may have any.
abbrev pub unquoted : List ℕ → List ℕ
unquoted string = take (length string - 2) (drop 1 string)

-- what a word or a quoted string says
abbrev pub said_by : List ℕ → Token → List ℕ
said_by text token = if is_word token.kind then bytes_of text token else unquoted (bytes_of text token)

-- the same, in capital letters where it isn't quoted
abbrev pub raised_by : List ℕ → Token → List ℕ
raised_by text token = if is_word token.kind then map to_ascii_uppercase (bytes_of text token) else unquoted (bytes_of text token)

-- ---- numbers

-- decimal digits, and nothing else
abbrev pub are_digits : List ℕ → Bool
are_digits said = list_all is_ascii_digit said && nat_lt 0 (length said)

-- the number that digits say, where it isn't above the most
abbrev pub number_to : ℕ → List ℕ → Option ℕ
number_to most said = if are_digits said && nat_le (value_of said) most then Some (value_of said) else None

-- a number of a field of 8 bits
abbrev pub byte_said : List ℕ → Option ℕ
byte_said said = number_to 255 said

-- the number of a form, of 16 bits
abbrev pub form_number_said : List ℕ → Option ℕ
form_number_said said = number_to 65535 said

-- the number of an entry, of 32 bits
abbrev pub entry_said : List ℕ → Option ℕ
entry_said said = number_to 4294967295 said

-- how many blocks, of 32 bits
abbrev pub blocks_said : List ℕ → Option ℕ
blocks_said said = number_to 4294967295 said

-- ---- names

-- a name that passes
abbrev pub if_passes : (List ℕ → Bool) → List ℕ → Option (List ℕ)
if_passes passes name = if passes name then Some name else None

-- the name of a queue, a stock or a device
abbrev pub short_name_said : List ℕ → Option (List ℕ)
short_name_said said = option_and_then (if_passes is_short) (name_of said)

-- the name of a form or a characteristic that is defined or deleted
abbrev pub definable_name_said : List ℕ → Option (List ℕ)
definable_name_said said = option_and_then (if_passes is_definable) (name_of said)

abbrev pub is_node_name : List ℕ → Bool
is_node_name name = nat_le (length name) NODE_NAME_BYTES

-- the name of a node
abbrev pub node_said : List ℕ → Option (List ℕ)
node_said said = option_and_then (if_passes is_node_name) (name_of said)

-- all nodes
abbrev pub says_all : List ℕ → Bool
says_all said = bytes_eq said (codes "*")

-- a number where it is digits alone, and else a name
abbrev pub reference_said : ℕ → List ℕ → Option NameOrNumber
reference_said most said = if are_digits said then option_map Number (number_to most said) else option_map Name (short_name_said said)

-- a form, by its name or its number
abbrev pub form_said : List ℕ → Option NameOrNumber
form_said said = reference_said 65535 said

-- a characteristic, by its name or its number
abbrev pub characteristic_said : List ℕ → Option NameOrNumber
characteristic_said said = reference_said 255 said

-- a pattern of names
abbrev pub pattern_said : List ℕ → Option (List ℕ)
pattern_said said = result_ok (text_of is_pattern_byte said)

-- ---- where a queue stands: NODE:: or NODE::DEVICE:

-- what stands behind a colon
abbrev pub behind_colon : List ℕ → Option (List ℕ)
behind_colon [] = None
behind_colon (b ∷ rest) = if b == 58 then Some rest else None

-- what stands in front of a colon that ends it
abbrev pub before_colon : List ℕ → Option (List ℕ)
before_colon said = option_map (λ rest. take (length said - 1) said) (behind_colon (drop (length said - 1) said))

-- nothing, or a device
abbrev pub device_said : List ℕ → Option (Option (List ℕ))
device_said [] = Some None
device_said (b ∷ rest) = option_map Some (option_and_then short_name_said (before_colon (b ∷ rest)))

abbrev pub located : List ℕ → Option (List ℕ) → Option Location
located node device = option_map (λ n. record { node = n; device = device }) (node_said node)

-- a node, two colons, and perhaps a device; the first colon is at this place
abbrev pub location_cut_at : Option ℕ → List ℕ → Option Location
location_cut_at None said = None
location_cut_at (Some place) said =
    option_and_then (located (take place said)) (option_and_then device_said (behind_colon (drop (place + 1) said)))

-- a node, and perhaps a device of it
abbrev pub location_said : List ℕ → Option Location
location_said said = location_cut_at (position (λ b. b == 58) said) said

-- ---- keys, and words that are spelled in full

-- behind blanks and tabs stands an =
abbrev pub leads_to_equals : List ℕ → Bool
leads_to_equals [] = false
leads_to_equals (b ∷ rest) = if b == 32 || b == 9 then leads_to_equals rest else b == 61

-- an = stands behind the token
abbrev pub has_equals : List ℕ → Token → Bool
has_equals text token = leads_to_equals (drop token.end text)

-- whether jobs stand in order of their sizes: SIZE or NOSIZE
abbrev pub schedule_said : List ℕ → Option Bool
schedule_said raised = if bytes_eq raised (codes "SIZE") then Some true else if bytes_eq raised (codes "NOSIZE") then Some false else None

-- which jobs a queue keeps: ALL or ERROR
abbrev pub queue_retain_said : List ℕ → Option QueueRetain
queue_retain_said raised =
    if bytes_eq raised (codes "ALL") then Some All else if bytes_eq raised (codes "ERROR") then Some Failed else None

-- whether a job is kept, in one word: ALWAYS, ERROR or DEFAULT
abbrev pub job_retain_said : List ℕ → Option JobRetain
job_retain_said raised =
    if bytes_eq raised (codes "ALWAYS") then Some retain.Always
    else if bytes_eq raised (codes "ERROR") then Some retain.Failed
    else if bytes_eq raised (codes "DEFAULT") then Some retain.Default
    else None

-- the word behind which the moment stands until which a job is kept
abbrev pub is_until : List ℕ → Bool
is_until raised = bytes_eq raised (codes "UNTIL")

-- a side of a page
abbrev pub side_said : List ℕ → Option Side
side_said raised =
    if bytes_eq raised (codes "TOP") then Some Top
    else if bytes_eq raised (codes "BOTTOM") then Some Bottom
    else if bytes_eq raised (codes "LEFT") then Some Left
    else if bytes_eq raised (codes "RIGHT") then Some Right
    else None

-- ---- times

-- the moment that a time names; a relative one counts from now
abbrev pub moment_said : ℕ → List ℕ → Option ℕ
moment_said now raised = result_ok (moment_at raised now)
