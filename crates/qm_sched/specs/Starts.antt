-- How many jobs can be started at most.
use Rattle.std.specs.Prelude.{ℕ, if◌then◌else◌, List, sum_by}
use Rattle.qm_model.specs.Common.{Queue, is_started, places}

-- the places of the queues that are started, taken or not
abbrev pub start_places : List Queue → ℕ
start_places queues = sum_by (λ q. if is_started q.state then places q else 0) queues
