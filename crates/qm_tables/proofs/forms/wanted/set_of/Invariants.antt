use Rattle.std.proofs.Common.{◌≡◌, take}
use Rattle.qm_model.specs.Wanted.{set_of}
use Rattle.qm_tables.proofs.forms.wanted.set_of.Given as goal

-- the set of those so far
abbrev pub invariant-loop-one : goal.invariant-loop-one
invariant-loop-one l = l.set ≡ set_of l.defined (take l.one-index l.wanted)
