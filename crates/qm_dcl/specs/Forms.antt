-- Forms and characteristics that are defined.
-- DCL Dictionary, DEFINE/FORM and DEFINE/CHARACTERISTIC. This site's own: what a form has where nothing is given.
use Rattle.std.specs.Prelude.{ℕ, false, List, Option, unwrap_or, option_map, option_and_then}
use Rattle.qm_model.specs.Common.{Form, Characteristic, Shape}
use Rattle.qm_dcl.specs.declared.settings.Definition.{Definition}
use Rattle.qm_dcl.specs.declared.value.Side.{Side}
use Rattle.qm_dcl.specs.declared.value.Side.TheVariants.{Top, Bottom, Left, Right}

-- 66 lines of 132 columns, six lines left free at the bottom, and lines that are too long are cut
abbrev pub default_shape : Shape
default_shape = record { length = 66; width = 132; top = 0; bottom = 6; left = 0; right = 0; wrap = false }

-- with the margins that a form has where none are given
abbrev pub with_default_margins : Shape → Shape
with_default_margins shape = record default_shape { length = shape.length; width = shape.width; wrap = shape.wrap }

-- with one margin
abbrev pub with_margin : Shape → Side → ℕ → Shape
with_margin shape Top margin = record shape { top = margin }
with_margin shape Bottom margin = record shape { bottom = margin }
with_margin shape Left margin = record shape { left = margin }
with_margin shape Right margin = record shape { right = margin }

-- a form of this name and number, whose stock has by default its name
abbrev pub form_named : Definition → List ℕ → ℕ → Form
form_named d name number = record { name = name; number = number; stock = unwrap_or d.stock name; shape = d.shape }

-- the form that is defined
abbrev pub form_of : Definition → Option Form
form_of d = option_and_then (λ name. option_map (form_named d name) d.form_number) d.name

-- the characteristic that is defined
abbrev pub characteristic_of : Definition → Option Characteristic
characteristic_of d = option_and_then (λ name. option_map (λ number. record { name = name; number = number }) d.characteristic_number) d.name
