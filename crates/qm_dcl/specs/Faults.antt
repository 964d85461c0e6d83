-- What a fault says of a text.
use Rattle.std.specs.Prelude.{◌≡◌, Result, Err}
use Rattle.qm_kinds.specs.declared.input.Input.{Input}
use Rattle.qm_commands.specs.declared.fault.Fault.{Fault}
use Rattle.qm_dcl.specs.declared.fault.DclFault.{DclFault}
use Rattle.qm_dcl.specs.declared.fault.DclFault.TheVariants.{At, NoMemory}

-- what is wrong with the text; of want of memory nothing is told
abbrev pub Explains : Result Input Fault → DclFault → Type 0
Explains read (At place kind) = read ≡ Err (record { place = place; kind = kind })
Explains read NoMemory = Unit {0}
