-- What it is that a full spelling reads back.
-- OpenVMS User's Manual, on entering commands.
use Rattle.std.specs.Prelude.{◌≡◌, ℕ, List, Some, Ok}
use Rattle.qm_kinds.specs.declared.input.Input.{Input}
use Rattle.qm_dcl.specs.Command.{command_of}
use Rattle.qm_spelling.specs.Commands.{spelling_of}

-- the full spelling of an input, if it has one, is read as that input when this user types it, at whatever moment
abbrev pub ReadsBack : List ℕ → Input → Type 0
ReadsBack user input = (now : ℕ) (text : List ℕ) → spelling_of input ≡ Some text → command_of user now text ≡ Ok input
