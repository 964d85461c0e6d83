-- What acts ask for.
use Rattle.qm_kinds.specs.declared.input.Input.{Input}
use Rattle.qm_kinds.specs.declared.input.Input.TheVariants.{Ask, Show, Compact, Fetch, StopNode, StartNode, TakeManager, Fault}
use Rattle.qm_script.specs.Wanting.{TakesMemory, WantsMemory}

-- memory for bytes that are added is memory
pub wants_takes : (input : Input) → WantsMemory input → TakesMemory input
wants_takes (Ask asked) h = h
wants_takes (Show query) h = absurd h
wants_takes Compact h = absurd h
wants_takes (Fetch known) h = absurd h
wants_takes StopNode h = absurd h
wants_takes StartNode h = absurd h
wants_takes (TakeManager on) h = absurd h
wants_takes (Fault place kind) h = absurd h
