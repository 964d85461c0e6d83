-- What a queue starts next.
use Rattle.std.specs.Prelude.{◌≡◌, ◌&&◌, ℕ, Bool, not, if◌then◌else◌, List, count_by, Option, None, IfSome, IsSome, option_map}
use Rattle.qm_model.specs.Common.{Queue, Start, System, is_open, is_free, is_generic}
use Rattle.qm_model.specs.Settling.{has_run_numbers, next_choice, next_job, start_of}

-- run numbers are left, and the queue has a place for one more run
abbrev pub has_place : System → Queue → Bool
has_place s q = has_run_numbers s && is_free s q

-- the start of the first job that fits the queue, where run numbers are left and the queue has a place
abbrev pub next_start : System → Queue → Option Start
next_start s q = if has_place s q then option_map (λ e. start_of s (record { entry = e; queue = q })) (next_job s q) else None

-- the queue runs jobs and is open, run numbers are left and it has a place
abbrev pub takes_jobs : System → Queue → Bool
takes_jobs s q = not (is_generic q.kind) && is_open s q && has_place s q

-- how often the row of the queue's jobs is looked at, to find what it starts next
abbrev pub looks_at : System → Queue → ℕ
looks_at s q = if takes_jobs s q then 1 else 0

-- how many queues run jobs themselves
abbrev pub execution_queues : List Queue → ℕ
execution_queues queues = count_by (λ q. not (is_generic q.kind)) queues

-- the start is what is started next
abbrev pub IsNextStart : System → Start → Type 0
IsNextStart s start = IsSome (next_choice s) × IfSome (next_choice s) (λ c. start ≡ start_of s c)
