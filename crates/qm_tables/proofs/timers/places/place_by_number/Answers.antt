use Rattle.std.proofs.Common.{rules, nat_lt}
use Rattle.std.proofs.lemmas.List.Sorted.{IsPartitionPoint-from_clause}
use Rattle.qm_tables.specs.TimersKept.{has_less}
use Rattle.qm_tables.proofs.TimerOrders.{less-trans, parted}
use Rattle.qm_tables.proofs.timers.places.place_by_number.Goals as goal

-- the closure computes the order of numbers
pub returns : goal.returns
returns c =
    let point = IsPartitionPoint-from_clause (λ t. nat_lt t.1 c.args.number) c.args.timers.now c.partition_point.result c.partition_point.ensures.partitioned
    (parted has_less less-trans c.args.timers.now (0, c.args.number) c.requires) (λ a r f called. search rules) in
    record { within = c.partition_point.ensures.bound; before = point.0; behind = point.1 }
