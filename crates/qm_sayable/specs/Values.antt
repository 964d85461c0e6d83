-- Which values a command can say.
-- OpenVMS User's Manual, on entering commands: values and lists.
use Rattle.std.specs.Prelude.{ℕ, Bool, ◌&&◌, nat_le, List, length}
use Rattle.std.specs.List.{list_all}
use Rattle.qm_model.specs.Common.{NameOrNumber, Name, Number, is_definable}

-- a list isn't too long
abbrev pub fits_list : ℕ → Bool
fits_list values = nat_le values 65535

-- a form or a characteristic: a name of digits alone would be a number, and no number is above the most
abbrev pub is_reference : ℕ → NameOrNumber → Bool
is_reference most (Name name) = is_definable name
is_reference most (Number number) = nat_le number most

-- a form, whose number has 16 bits
abbrev pub is_form_reference : NameOrNumber → Bool
is_form_reference form = is_reference 65535 form

-- characteristics, whose numbers have 8 bits
abbrev pub are_characteristics : List NameOrNumber → Bool
are_characteristics characteristics = fits_list (length characteristics) && list_all (is_reference 255) characteristics
