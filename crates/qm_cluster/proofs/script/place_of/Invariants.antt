use Rattle.std.proofs.Common.{◌≡◌, ◌<◌, ℕ, Some, slice_get}
use Rattle.qm_cluster.specs.Runs.{names_of}
use Rattle.qm_cluster.proofs.script.place_of.Given as goal

-- none of the nodes so far has the name
abbrev pub invariant-places : goal.invariant-places
invariant-places g l = (j : ℕ) → j < l.place → slice_get (names_of l.seats) j ≡ Some l.name → ⊥
