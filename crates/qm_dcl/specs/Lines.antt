-- What a line of a script asks for.
use Rattle.std.specs.Prelude.{ℕ, List, Result, Ok, Err}
use Rattle.qm_model.specs.Common.{system_user, Input}
use Rattle.qm_kinds.specs.declared.input.Input.TheVariants as input
use Rattle.qm_commands.specs.declared.fault.Fault.{Fault}
use Rattle.qm_model.specs.Script.{Sort, Command, Site, act_of}
use Rattle.qm_dcl.specs.Command.{command_of}

-- a command that can't be read is a fault at its place
abbrev pub or_fault : Result Input Fault → Input
or_fault (Ok asked) = asked
or_fault (Err f) = input.Fault f.place f.kind

-- what a line asks for that is read at a moment: a command, or an act at the site
abbrev pub input_of : Sort → ℕ → List ℕ → Input
input_of Command now text = or_fault (command_of system_user now text)
input_of Site now text = act_of text
