use Rattle.std.proofs.Common.{◌≡◌, ◌+◌, ◌≤◌, ◌++◌, map, vec_len, vec_capacity}
use Rattle.qm_cluster.specs.Through.{first_at, is_at}
use Rattle.qm_cluster.proofs.place.seats_of.Given as goal

abbrev pub invariant-passes : goal.invariant-passes
invariant-passes g l =
    (map is_at l.seats.items ++ map first_at l.passes.items ≡ map first_at l.initial.passes.items) × (vec_len l.seats + vec_len l.passes ≤ vec_capacity l.seats)

abbrev pub decreases-passes : goal.decreases-passes
decreases-passes g l = vec_len l.passes
