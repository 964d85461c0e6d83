-- How forms and characteristics are kept.
use Rattle.std.specs.Prelude.{◌≤◌, ℕ, List, All}
use Rattle.std.specs.Ordering.{nat_cmp}
use Rattle.qm_model.specs.Common.{Form, Characteristic, LAST_CHARACTERISTIC, IsInOrder, AreDistinct}

-- the rows stand by number, under names of their own
pub record AreNumbered {X : Type 0} (number : X → ℕ) (name : X → List ℕ) (rows : List X) : Type 0 where
  pub order : IsInOrder nat_cmp number rows
  pub distinct : AreDistinct name rows

-- forms do
abbrev pub AreKeptForms : List Form → Type 0
AreKeptForms forms = AreNumbered (λ f. f.number) (λ f. f.name) forms

-- characteristics do
abbrev pub AreKeptCharacteristics : List Characteristic → Type 0
AreKeptCharacteristics defined = AreNumbered (λ c. c.number) (λ c. c.name) defined

-- both do, and characteristics have numbers up to the last one
pub record AreKept (forms : List Form) (characteristics : List Characteristic) : Type 0 where
  pub forms_stand : AreKeptForms forms
  pub characteristics_stand : AreKeptCharacteristics characteristics
  pub small : All (λ c. c.number ≤ LAST_CHARACTERISTIC) characteristics
