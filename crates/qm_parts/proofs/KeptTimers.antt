-- Timers come and go, and the rows stay.
use Rattle.std.proofs.Common.{◌≡◌, ℕ, List, Option, sym, subst}
use Rattle.qm_ready.specs.Rows.{Row}
use Rattle.qm_parts.specs.Ready.{AreKept}
use Rattle.qm_parts.specs.Tables.{Tables}

pub kept_timers : (t u : Tables) (rows : List Row) (most : List (Option ℕ)) (more_queues : ℕ) (timers : List (ℕ × ℕ)) (spare : ℕ) → u ≡ record t { timers = timers; spare_timers = spare }
    → AreKept t rows most more_queues → AreKept u rows most more_queues
kept_timers t u rows most more_queues timers spare is kept =
    subst (λ (v : Tables). AreKept v rows most more_queues) (sym is)
    (record { queues = kept.queues; enough = kept.enough; bounded = kept.bounded; room = kept.room; bounds = kept.bounds; ready = kept.ready })
