-- What of a form a command can say.
-- DCL Dictionary, DEFINE/FORM.
use Rattle.std.specs.Prelude.{Bool, ◌&&◌}
use Rattle.qm_model.specs.Common.{Form, is_short, is_definable}

-- a form that can be defined by a command
abbrev pub is_form : Form → Bool
is_form form = is_definable form.name && is_short form.stock
