-- What digits say.
use Rattle.std.specs.Prelude.{ℕ, ◌&&◌, nat_le, if◌then◌else◌, List, Option, None, Some}
use Rattle.std.specs.List.{list_all}
use Rattle.std.specs.Char.{is_ascii_digit}
use Rattle.qm_model.specs.Texts.{value_of}

-- the number that digits say, where it isn't above the most; no digits say 0
abbrev pub number_up_to : ℕ → List ℕ → Option ℕ
number_up_to most text = if list_all is_ascii_digit text && nat_le (value_of text) most then Some (value_of text) else None
