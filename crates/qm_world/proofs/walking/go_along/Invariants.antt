use Rattle.std.proofs.Common.{take}
use Rattle.qm_world.specs.Walking.{IsAt, LeadTo}
use Rattle.qm_world.proofs.walking.go_along.Given as goal

abbrev pub invariant-loop-index : goal.invariant-loop-index
invariant-loop-index l = record { at : IsAt l.walker; led : LeadTo l.initial.walker.world (take l.index l.steps) l.walker.world }
