use Rattle.std.proofs.Common.{◌≡◌, length, take, bytes_eq}
use Rattle.std.specs.List.{list_any}
use Rattle.qm_parts.specs.Ready.{KeepsKeys}
use Rattle.qm_parts.specs.Rooms.{AreBounds, HasRoomWhere}
use Rattle.qm_parts.proofs.rooms.widen_targets.Given as goal

-- the rows of those that were passed have the room
abbrev pub invariant-loop-target : goal.invariant-loop-target
invariant-loop-target l = record {
  places : HasRoomWhere (λ q. list_any (λ target. bytes_eq target q.name) (take l.target-index l.targets)) l.more l.tables l.rows.items;
  same : KeepsKeys l.initial.rows.items l.rows.items;
  bounded : length l.bounds.items ≡ length l.initial.bounds.items;
  bounds : AreBounds l.tables.queues l.tables.entries l.bounds.items;
}
