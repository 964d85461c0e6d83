-- What is stopped where no run is left.
use Rattle.std.specs.Prelude.{◌≡◌, ℕ, List, slice_set, slice_index_or}
use Rattle.qm_model.specs.Common.{Queue, Run}
use Rattle.qm_tables.specs.Queues.{Kept}
use Rattle.qm_parts.specs.Mirror.{stopped_unless_used}

-- the queue at a place is stopped, if it is stopping and has none of the runs, and nothing else changes
abbrev pub StopsAt : ℕ → List Run → Kept → Kept → Type 0
StopsAt place runs old new = (any : Queue) → new ≡ record old {
  queues = slice_set old.queues place (stopped_unless_used runs (slice_index_or old.queues place any));
}
