-- For what memory may be wanted: of acts, for a request, and for the runs of which a node knows. A command and an item list may want
-- it for any text.
use Rattle.qm_kinds.specs.declared.input.Input.{Input}
use Rattle.qm_kinds.specs.declared.input.Input.TheVariants.{Ask, Fetch}
use Rattle.qm_history.specs.Script.{LineSort, Command, Items, Act}

-- a request is asked for
abbrev pub WantsMemory : Input → Type 0
WantsMemory (Ask request) = Unit {0}
WantsMemory _ = ⊥

-- memory is wanted for a request, and for the runs of which the node knows
abbrev pub TakesMemory : Input → Type 0
TakesMemory (Ask request) = Unit {0}
TakesMemory (Fetch known) = Unit {0}
TakesMemory _ = ⊥

-- memory may be wanted for a text of this sort that asks for this
abbrev pub MayTakeMemory : LineSort → Input → Type 0
MayTakeMemory Command input = Unit {0}
MayTakeMemory Items input = Unit {0}
MayTakeMemory Act input = TakesMemory input
