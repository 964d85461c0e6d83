-- The names of files.
use Rattle.std.specs.Prelude.{ℕ, ◌==◌, ◌+◌, List, [], ◌∷◌, ◌++◌, take, drop, position, Option, None, Some, option_and_then, option_map}
use Rattle.std.specs.Result.{result_ok}
use Rattle.qm_kinds.specs.Text.{text_of, is_name_byte}
use Rattle.qm_kinds.specs.declared.file.FileName.{FileName}

-- the name that a text spells, if it spells one
abbrev pub name_of : List ℕ → Option (List ℕ)
name_of text = result_ok (text_of is_name_byte text)

-- a name, and a type where there is one
abbrev pub file_name_from : List ℕ → Option (List ℕ) → Option FileName
file_name_from name None = option_map (λ n. record { name = n; extension = None }) (name_of name)
file_name_from name (Some extension) =
    option_and_then (λ n. option_map (λ e. record { name = n; extension = Some e }) (name_of extension)) (name_of name)

-- the text alone, or cut at a full stop
abbrev pub file_name_cut_at : Option ℕ → List ℕ → Option FileName
file_name_cut_at None text = file_name_from text None
file_name_cut_at (Some place) text = file_name_from (take place text) (Some (drop (place + 1) text))

-- a name, or a name, a full stop and a type
abbrev pub file_name_of : List ℕ → Option FileName
file_name_of text = file_name_cut_at (position (λ b. b == 46) text) text

-- a full stop and the type, where there is one
abbrev pub extension_text : Option (List ℕ) → List ℕ
extension_text None = []
extension_text (Some extension) = 46 ∷ extension

-- what is printed of it
abbrev pub file_name_text : FileName → List ℕ
file_name_text f = f.name ++ extension_text f.extension
