-- What the value of an item says. Numbers of several bytes have the lowest byte first.
-- OpenVMS System Services Reference Manual, $SNDJBC and $GETQUI, on item codes. This site's own: what bytes a value has.
use Rattle.std.specs.Prelude.{ℕ, ◌==◌, nat_lt, nat_le, Bool, true, false, not, ◌&&◌, ◌||◌, if◌then◌else◌, List, [], ◌∷◌, length, get_or, Option, None, Some, is_some, option_map, option_and_then}
use Rattle.std.specs.List.{list_all}
use Rattle.std.specs.Char.{is_ascii_digit}
use Rattle.std.specs.Int.{w16, w32, w64, from_le_bytes}
use Rattle.std.specs.Result.{result_ok}
use Rattle.qm_model.specs.Common.{name_of, file_name_of, JobKind, JobRetain, Shape, LAST_MOMENT, NODE_NAME_BYTES, QueueKind, QueueRetain, NameOrNumber, Name, Number, StopMode, is_short, is_definable, value_of}
use Rattle.qm_kinds.specs.Text.{text_of, is_pattern_byte}
use Rattle.qm_kinds.specs.declared.entry.JobKind.TheVariants as job
use Rattle.qm_kinds.specs.declared.entry.JobRetain.TheVariants as retain
use Rattle.qm_kinds.specs.declared.queue.QueueKind.TheVariants as kind
use Rattle.qm_kinds.specs.declared.queue.QueueRetain.TheVariants as kept
use Rattle.qm_kinds.specs.declared.request.StopMode.TheVariants as mode
use Rattle.qm_values.specs.declared.holds.Holds.{Holds}
use Rattle.qm_values.specs.declared.holds.Holds.TheVariants as holds

-- ---- names

abbrev pub name_said : List ℕ → Option (List ℕ)
name_said value = name_of value

-- a name that passes
abbrev pub if_passes : (List ℕ → Bool) → List ℕ → Option (List ℕ)
if_passes passes name = if passes name then Some name else None

-- the name of a queue, a stock or a device
abbrev pub short_name_said : List ℕ → Option (List ℕ)
short_name_said value = option_and_then (if_passes is_short) (name_of value)

-- the name of a form or a characteristic
abbrev pub definable_name_said : List ℕ → Option (List ℕ)
definable_name_said value = option_and_then (if_passes is_definable) (name_of value)

abbrev pub is_node_name : List ℕ → Bool
is_node_name name = nat_le (length name) NODE_NAME_BYTES

abbrev pub node_said : List ℕ → Option (List ℕ)
node_said value = option_and_then (if_passes is_node_name) (name_of value)

abbrev pub pattern_said : List ℕ → Option (List ℕ)
pattern_said value = result_ok (text_of is_pattern_byte value)

-- decimal digits, and nothing else
abbrev pub are_digits : List ℕ → Bool
are_digits value = list_all is_ascii_digit value && nat_lt 0 (length value)

abbrev pub number_to : ℕ → List ℕ → Option ℕ
number_to most value = if are_digits value && nat_le (value_of value) most then Some (value_of value) else None

-- a number where it is digits alone, and else a name
abbrev pub reference_said : List ℕ → Option NameOrNumber
reference_said value = if are_digits value then option_map Number (number_to 65535 value) else option_map Name (short_name_said value)

-- ---- numbers

abbrev pub byte_said : List ℕ → Option ℕ
byte_said value = if length value == 1 then Some (get_or value 0 0) else None

abbrev pub short_said : List ℕ → Option ℕ
short_said value = if length value == 2 then Some (from_le_bytes w16 value) else None

abbrev pub long_said : List ℕ → Option ℕ
long_said value = if length value == 4 then Some (from_le_bytes w32 value) else None

-- a number up to the most
abbrev pub up_to : ℕ → ℕ → Option ℕ
up_to most n = if nat_le n most then Some n else None

abbrev pub small_said : List ℕ → Option ℕ
small_said value = option_and_then (up_to 255) (short_said value)

abbrev pub moment_said : List ℕ → Option ℕ
moment_said value = if length value == 8 then up_to LAST_MOMENT (from_le_bytes w64 value) else None

-- a moment, or that there is none
abbrev pub after_said : List ℕ → Option (Option ℕ)
after_said value = if length value == 0 then Some None else option_map Some (moment_said value)

-- ---- choices

abbrev pub truth_of : ℕ → Option Bool
truth_of b = if b == 0 then Some false else if b == 1 then Some true else None

abbrev pub truth_said : List ℕ → Option Bool
truth_said value = option_and_then truth_of (byte_said value)

abbrev pub queue_kind_of : ℕ → Option QueueKind
queue_kind_of b =
    if b == 1 then Some kind.Batch
    else if b == 2 then Some kind.Print
    else if b == 3 then Some kind.GenericBatch
    else if b == 4 then Some kind.GenericPrint
    else None

abbrev pub queue_kind_said : List ℕ → Option QueueKind
queue_kind_said value = option_and_then queue_kind_of (byte_said value)

abbrev pub job_kind_of : ℕ → Option JobKind
job_kind_of b = if b == 1 then Some job.Batch else if b == 2 then Some job.Print else None

abbrev pub job_kind_said : List ℕ → Option JobKind
job_kind_said value = option_and_then job_kind_of (byte_said value)

abbrev pub queue_retain_of : ℕ → Option QueueRetain
queue_retain_of b = if b == 0 then Some kept.Nothing else if b == 1 then Some kept.Failed else if b == 2 then Some kept.All else None

abbrev pub queue_retain_said : List ℕ → Option QueueRetain
queue_retain_said value = option_and_then queue_retain_of (byte_said value)

-- whether a job is kept, where no moment belongs to it
abbrev pub retain_of : ℕ → Option JobRetain
retain_of b = if b == 0 then Some retain.Default else if b == 1 then Some retain.Always else if b == 2 then Some retain.Failed else None

abbrev pub job_retain_said : List ℕ → Option JobRetain
job_retain_said [] = None
job_retain_said (b ∷ behind) =
    if b == 3 then option_map retain.Until (moment_said behind) else if length behind == 0 then retain_of b else None

abbrev pub how_of : ℕ → Option StopMode
how_of b = if b == 1 then Some mode.Pause else if b == 2 then Some mode.Next else if b == 3 then Some mode.Reset else None

abbrev pub how_said : List ℕ → Option StopMode
how_said value = option_and_then how_of (byte_said value)

-- a shape, with its last byte read
abbrev pub shaped : List ℕ → Bool → Shape
shaped value wrap = record {
  length = get_or value 0 0;
  width = get_or value 1 0;
  top = get_or value 2 0;
  bottom = get_or value 3 0;
  left = get_or value 4 0;
  right = get_or value 5 0;
  wrap = wrap;
}

abbrev pub shape_said : List ℕ → Option Shape
shape_said value = if length value == 7 then option_map (shaped value) (truth_of (get_or value 6 0)) else None

-- bytes are a value of this form
abbrev pub is_held : Holds → List ℕ → Bool
is_held holds.Nothing value = length value == 0
is_held holds.Byte value = is_some (byte_said value)
is_held holds.Short value = is_some (short_said value)
is_held holds.Long value = is_some (long_said value)
is_held holds.Truth value = is_some (truth_said value)
is_held holds.CharacteristicNumber value = is_some (small_said value)
is_held holds.How value = is_some (how_said value)
is_held holds.QueueKind value = is_some (queue_kind_said value)
is_held holds.JobKind value = is_some (job_kind_said value)
is_held holds.QueueRetain value = is_some (queue_retain_said value)
is_held holds.JobRetain value = is_some (job_retain_said value)
is_held holds.Moment value = is_some (after_said value)
is_held holds.Shape value = is_some (shape_said value)
is_held holds.Name value = is_some (name_said value)
is_held holds.ShortName value = is_some (short_name_said value)
is_held holds.NodeName value = is_some (node_said value)
is_held holds.DefinableName value = is_some (definable_name_said value)
is_held holds.File value = is_some (file_name_of value)
is_held holds.Reference value = is_some (reference_said value)
is_held holds.Characteristic value = length value == 0 || is_some (reference_said value)
is_held holds.Pattern value = is_some (pattern_said value)
is_held holds.Bytes value = not (length value == 0)
