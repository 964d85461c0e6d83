-- What is known of a job and a queue before another row is looked for.
use Rattle.std.specs.Prelude.{Bool, ◌&&◌}
use Rattle.qm_model.specs.Common.{Entry, Queue, is_of_kind, has_characteristics, has_size, is_pending}

-- the job waits for nothing but its start, and suits the queue by its kind, the characteristics that it asks for, and its size
abbrev pub suits : Entry → Queue → Bool
suits e q = is_pending e.state && is_of_kind e q && has_characteristics e q && has_size e q
