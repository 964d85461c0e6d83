-- What commands are put together of.
-- OpenVMS User's Manual, on entering commands: qualifiers, values, lists, quoted strings.
use Rattle.std.specs.Prelude.{ℕ, Bool, if◌then◌else◌, List, [], ◌++◌, map, codes, decimal, Option, None, Some}
use Rattle.qm_model.specs.Common.{NameOrNumber, Name, Number}
use Rattle.qm_commands.specs.declared.word.Word.{Word}
use Rattle.qm_commands.specs.Words.{spelling}
use Rattle.qm_model.specs.Words.{listed}

-- a name behind a /, where it is given
abbrev pub marked_by : List ℕ → Bool → List ℕ
marked_by name given = if given then codes "/" ++ name else []

-- a name behind a /, and its value behind a =, where it is given
abbrev pub valued_by : List ℕ → Option (List ℕ) → List ℕ
valued_by name None = []
valued_by name (Some value) = codes "/" ++ name ++ codes "=" ++ value

-- a qualifier without a value, where it is given
abbrev pub marked : Word → Bool → List ℕ
marked word given = marked_by (spelling word) given

-- a qualifier with its value, where it is given
abbrev pub valued : Word → Option (List ℕ) → List ℕ
valued word value = valued_by (spelling word) value

-- values in parentheses, with commas between them
abbrev pub list_text : List (List ℕ) → List ℕ
list_text values = codes "(" ++ listed values ++ codes ")"

-- a form or a characteristic
abbrev pub reference_text : NameOrNumber → List ℕ
reference_text (Name name) = name
reference_text (Number number) = decimal number

-- forms or characteristics
abbrev pub references_text : List NameOrNumber → List ℕ
references_text references = list_text (map reference_text references)
