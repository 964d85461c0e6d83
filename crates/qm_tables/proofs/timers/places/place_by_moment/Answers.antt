use Rattle.std.proofs.Common.{rules}
use Rattle.std.proofs.lemmas.List.Sorted.{IsPartitionPoint-from_clause}
use Rattle.qm_tables.specs.Timers.{is_before}
use Rattle.qm_tables.proofs.TimerOrders.{before-trans, parted}
use Rattle.qm_tables.proofs.timers.places.place_by_moment.Goals as goal

-- the closure computes the order of moments
pub returns : goal.returns
returns c =
    let point = IsPartitionPoint-from_clause (λ t. is_before t c.args.timer) c.args.timers.now c.partition_point.result c.partition_point.ensures.partitioned
    (parted is_before before-trans c.args.timers.now c.args.timer c.requires) (λ a r f called. search rules) in
    record { within = c.partition_point.ensures.bound; before = point.0; behind = point.1 }
