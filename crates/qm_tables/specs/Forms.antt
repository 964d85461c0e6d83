-- Forms and characteristics: what the callers of their table see, and what a deletion makes of it.
use Rattle.std.specs.Prelude.{◌≡◌, ◌+◌, ℕ, not, List, length, filter, bytes_eq}
use Rattle.qm_model.specs.Common.{Form, Characteristic}

-- the forms and the characteristics in order of their numbers, and how many more of each have room
pub record Defined : Type 0 where
  pub forms : List Form
  pub characteristics : List Characteristic
  pub spare_forms : ℕ
  pub spare_characteristics : ℕ

-- the forms but that of a name
abbrev pub without_form : List ℕ → List Form → List Form
without_form name forms = filter (λ f. not (bytes_eq f.name name)) forms

-- the characteristics but that of a name
abbrev pub without_characteristic : List ℕ → List Characteristic → List Characteristic
without_characteristic name defined = filter (λ c. not (bytes_eq c.name name)) defined

-- the room of forms that went is room for others
abbrev pub KeepsFormRoom : Defined → Defined → Type 0
KeepsFormRoom old new = new.spare_forms + length new.forms ≡ old.spare_forms + length old.forms

-- the room of characteristics that went is room for others
abbrev pub KeepsCharacteristicRoom : Defined → Defined → Type 0
KeepsCharacteristicRoom old new =
    new.spare_characteristics + length new.characteristics ≡ old.spare_characteristics + length old.characteristics
