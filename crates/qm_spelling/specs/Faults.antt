-- Why an input has no spelling.
use Rattle.std.specs.Prelude.{ℕ, List, Option, None, Some}
use Rattle.qm_spelling.specs.declared.fault.PrintFault.{PrintFault}
use Rattle.qm_spelling.specs.declared.fault.PrintFault.TheVariants.{NoCommand, NoMemory}

-- no command asks for it; or memory ran out, and one does
abbrev pub Explains : Option (List ℕ) → PrintFault → Type 0
Explains None NoCommand = Unit {0}
Explains None NoMemory = ⊥
Explains (Some text) NoCommand = ⊥
Explains (Some text) NoMemory = Unit {0}
