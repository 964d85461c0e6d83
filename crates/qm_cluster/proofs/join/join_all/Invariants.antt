use Rattle.std.proofs.Common.{◌≡◌, ◌+◌, ◌≤◌, ◌++◌, List, [], map, vec_len, vec_capacity}
use Rattle.std.specs.List.{AllByRecursion}
use Rattle.qm_cluster.specs.Passes.{TakesIn}
use Rattle.qm_cluster.specs.Gathered.{text_at, text_left}
use Rattle.qm_cluster.specs.Through.{is_at}
use Rattle.qm_cluster.proofs.join.join_all.Given as goal

abbrev pub invariant-seats : goal.invariant-seats
invariant-seats g l =
    (l.pass.place ≡ l.turnstile.place) × (vec_len l.seats + vec_len l.texts ≤ vec_capacity l.texts)
    × AllByRecursion (λ s. (s.pass.place ≡ l.turnstile.place) × (s.pass.took ≡ [])) l.seats.items
    × ((done : List _) × (l.initial.seats.items ≡ done ++ l.seats.items) × TakesIn l.initial.pass (map (λ s. s.pass) done) l.pass
    × (map text_left l.texts.items ≡ map text_left l.initial.texts.items ++ map (λ s. text_at (is_at s)) done))

abbrev pub decreases-seats : goal.decreases-seats
decreases-seats g l = vec_len l.seats
