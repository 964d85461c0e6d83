use Rattle.std.proofs.Common.{rules, nat_le}
use Rattle.std.proofs.lemmas.List.Sorted.{IsPartitionPoint-from_clause}
use Rattle.qm_tables.proofs.TimerOrders.{due_parted}
use Rattle.qm_tables.proofs.timers.places.place_by_now.Goals as goal

-- the closure compares moments
pub returns : goal.returns
returns c =
    let point = IsPartitionPoint-from_clause (λ t. nat_le t.0 c.args.now) c.args.timers.now c.partition_point.result c.partition_point.ensures.partitioned
    (due_parted c.args.timers.now c.args.now c.requires) (λ a r f called. search rules) in
    record { within = c.partition_point.ensures.bound; before = point.0; behind = point.1 }
