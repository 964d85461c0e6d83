-- What names and marks are made of.
use Rattle.std.specs.Prelude.{◌≡◌, ◌<◌, ◌≤◌, ℕ, Bool, true, ◌||◌, ◌==◌, not, nat_lt, if◌then◌else◌, List, length, map, position, Option, None, Some, Result, Ok, Err}
use Rattle.std.specs.List.{list_all}
use Rattle.std.specs.Char.{is_ascii_uppercase, is_ascii_digit, to_ascii_uppercase}
use Rattle.qm_kinds.specs.declared.fault.MarkFault.{MarkFault}
use Rattle.qm_kinds.specs.declared.fault.MarkFault.TheVariants as mark
use Rattle.qm_kinds.specs.declared.fault.NameFault.{NameFault}
use Rattle.qm_kinds.specs.declared.fault.NameFault.TheVariants.{Empty, TooLong, BadByte}

-- a capital letter, a digit, $ or _
abbrev pub is_name_byte : ℕ → Bool
is_name_byte b = is_ascii_uppercase b || is_ascii_digit b || b == 36 || b == 95

-- a byte of a name, * or %
abbrev pub is_pattern_byte : ℕ → Bool
is_pattern_byte b = is_name_byte b || b == 42 || b == 37

-- 1 to 39 bytes that all pass
pub record IsText (allowed : ℕ → Bool) (text : List ℕ) : Type 0 where
  pub some : 0 < length text
  pub few : length text ≤ 39
  pub lawful : list_all allowed text ≡ true

-- the text with its letters raised, unless a byte is bad
abbrev pub raised_unless : Option ℕ → List ℕ → Result (List ℕ) NameFault
raised_unless None text = Ok (map to_ascii_uppercase text)
raised_unless (Some place) text = Err (BadByte place)

-- the same of 1 to 39 bytes; else what is wrong
abbrev pub text_unless : Option ℕ → List ℕ → Result (List ℕ) NameFault
text_unless bad text =
    if length text == 0 then Err Empty else
    if nat_lt 39 (length text) then Err (TooLong (length text)) else
    raised_unless bad text

-- The text with its letters raised, where it has 1 to 39 bytes that are then allowed; else the first fault.
abbrev pub text_of : (ℕ → Bool) → List ℕ → Result (List ℕ) NameFault
text_of allowed text = text_unless (position (λ b. not (allowed (to_ascii_uppercase b))) text) text

-- up to 255 bytes are a mark
abbrev pub mark_of : List ℕ → Result (List ℕ) MarkFault
mark_of bytes = if nat_lt 255 (length bytes) then Err (mark.TooLong (length bytes)) else Ok bytes
