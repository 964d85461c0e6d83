-- Commands of forms and characteristics.
-- DCL Dictionary, DEFINE/FORM, DELETE/FORM, DEFINE/CHARACTERISTIC and DELETE/CHARACTERISTIC.
use Rattle.std.specs.Prelude.{ℕ, Bool, ◌&&◌, ◌==◌, if◌then◌else◌, List, [], ◌∷◌, ◌++◌, codes, decimal, Option, None, Some, option_map}
use Rattle.qm_model.specs.Common.{Characteristic, Form, Shape}
use Rattle.qm_commands.specs.declared.word.Word.TheVariants as words
use Rattle.qm_dcl.specs.Forms.{default_shape}
use Rattle.qm_spelling.specs.Pieces.{marked, valued, list_text}
use Rattle.qm_spelling.specs.Jobs.{unless_default, number_unless_default}

-- all margins of a form
abbrev pub margins_text : Shape → List ℕ
margins_text shape =
    list_text ((codes "TOP=" ++ decimal shape.top) ∷ (codes "BOTTOM=" ++ decimal shape.bottom)
    ∷ (codes "LEFT=" ++ decimal shape.left) ∷ (codes "RIGHT=" ++ decimal shape.right) ∷ [])

-- the margins are those of a form for which none are given
abbrev pub are_default_margins : Shape → Bool
are_default_margins shape =
    shape.top == default_shape.top && shape.bottom == default_shape.bottom && shape.left == default_shape.left
    && shape.right == default_shape.right

-- the margins of a form, unless they are those
abbrev pub margins_unless_default : Shape → Option (List ℕ)
margins_unless_default shape = if are_default_margins shape then None else Some (margins_text shape)

-- how text is set on a form
abbrev pub shape_text : Shape → List ℕ
shape_text shape =
    valued words.Length (option_map decimal (number_unless_default default_shape.length shape.length))
    ++ valued words.Width (option_map decimal (number_unless_default default_shape.width shape.width))
    ++ valued words.Margin (margins_unless_default shape)
    ++ marked words.Wrap shape.wrap

-- a form that is defined
abbrev pub form_text : Form → List ℕ
form_text form =
    codes "DEFINE/FORM " ++ form.name ++ codes " " ++ decimal form.number
    ++ valued words.Stock (unless_default form.name form.stock)
    ++ shape_text form.shape

-- a characteristic that is defined
abbrev pub characteristic_text : Characteristic → List ℕ
characteristic_text characteristic =
    codes "DEFINE/CHARACTERISTIC " ++ characteristic.name ++ codes " " ++ decimal characteristic.number
