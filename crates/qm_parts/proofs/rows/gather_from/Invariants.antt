use Rattle.std.proofs.Common.{◌≡◌, ◌+◌, filter, length, map, take}
use Rattle.qm_tables.specs.Boxed.{contents}
use Rattle.qm_model.specs.Common.{System, fits}
use Rattle.qm_match.specs.Keys.{key_of}
use Rattle.qm_parts.specs.Reaching.{KnowsWay}
use Rattle.qm_parts.specs.Tables.{with_tables}
use Rattle.qm_parts.proofs.rows.gather_from.Given as goal

-- the keys of those that were passed
abbrev pub invariant-loop-boxed : goal.invariant-loop-boxed
invariant-loop-boxed l =
    record {
      keys : (s : System) → l.gathering.keys ≡ map key_of (filter (λ e. fits (with_tables s l.tables) e l.queue) (take l.boxed-index (contents l.entries)));
      schedule : l.gathering.schedule ≡ l.initial.gathering.schedule;
      room : l.gathering.spare + length l.gathering.keys ≡ l.initial.gathering.spare;
      last : KnowsWay l.tables.queues l.queue l.last;
    }
