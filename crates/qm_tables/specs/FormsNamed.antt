-- How forms are kept a second time, by name.
use Rattle.std.specs.Prelude.{◌≡◌, ℕ, List, length}
use Rattle.qm_model.specs.Common.{Form, Name, IsInOrder, name_cmp, form_wanted}

-- the same forms in order of their names: as many, and under each name the same form
pub record AreByName (forms by_name : List Form) : Type 0 where
  pub order : IsInOrder name_cmp (λ f. f.name) by_name
  pub as_many : length by_name ≡ length forms
  pub same : (name : List ℕ) → form_wanted (Name name) by_name ≡ form_wanted (Name name) forms
