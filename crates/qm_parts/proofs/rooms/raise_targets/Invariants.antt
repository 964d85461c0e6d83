use Rattle.std.proofs.Common.{◌≡◌, length, take, bytes_eq}
use Rattle.std.specs.List.{list_any}
use Rattle.qm_parts.specs.Rooms.{IsRaisedWhere}
use Rattle.qm_parts.proofs.rooms.raise_targets.Given as goal

-- those that were passed are raised
abbrev pub invariant-loop-target : goal.invariant-loop-target
invariant-loop-target l = record {
  raised : IsRaisedWhere (λ q. list_any (λ target. bytes_eq target q.name) (take l.target-index l.targets)) l.tables.queues l.initial.bounds.items l.bounds.items;
  count : length l.bounds.items ≡ length l.initial.bounds.items;
}
