-- The forms and characteristics that a request asks for, by name or by number.
-- DCL Dictionary, SUBMIT and PRINT, /FORM and /CHARACTERISTICS; INITIALIZE/QUEUE, /FORM_MOUNTED and /CHARACTERISTICS.
use Rattle.std.specs.Prelude.{ℕ, ◌^◌, if◌then◌else◌, List, [], ◌∷◌, fold, Option, None, Some, is_some, is_none, bit_or, option_map}
use Rattle.qm_kinds.specs.declared.form.Characteristic.{Characteristic}
use Rattle.qm_kinds.specs.declared.form.CharacteristicSet.{CharacteristicSet}
use Rattle.qm_kinds.specs.declared.form.Form.{Form}
use Rattle.qm_kinds.specs.declared.refusal.Refusal.{Refusal}
use Rattle.qm_kinds.specs.declared.refusal.Refusal.TheVariants.{NoSuchForm, NoSuchCharacteristic}
use Rattle.qm_kinds.specs.declared.request.NameOrNumber.{NameOrNumber}
use Rattle.qm_kinds.specs.declared.system.System.{System}
use Rattle.qm_model.specs.Find.{form_wanted, characteristic_wanted}
use Rattle.qm_model.specs.Outcome.{refused_where}

-- the form isn't defined
abbrev pub refused_form : System → NameOrNumber → Option Refusal
refused_form s wanted = refused_where (is_none (form_wanted wanted s.forms)) (NoSuchForm wanted)

-- the first characteristic that isn't defined
abbrev pub refused_characteristics : List Characteristic → List NameOrNumber → Option Refusal
refused_characteristics defined [] = None
refused_characteristics defined (wanted ∷ others) =
    if is_some (characteristic_wanted wanted defined) then refused_characteristics defined others else Some (NoSuchCharacteristic wanted)

-- the name of the form, if it is defined
abbrev pub form_named : List Form → NameOrNumber → Option (List ℕ)
form_named forms wanted = option_map (λ f. f.name) (form_wanted wanted forms)

-- the set with one more characteristic
abbrev pub with_characteristic : ℕ → Option Characteristic → ℕ
with_characteristic set None = set
with_characteristic set (Some c) = bit_or set (2 ^ c.number)

-- the characteristics that are asked for, as bits by number
abbrev pub set_of : List Characteristic → List NameOrNumber → ℕ
set_of defined wanted = fold (λ set w. with_characteristic set (characteristic_wanted w defined)) 0 wanted

-- the set of the characteristics that are asked for
abbrev pub characteristics_of : System → List NameOrNumber → CharacteristicSet
characteristics_of s wanted = record { 0 = set_of s.characteristics wanted }
