use Rattle.std.proofs.Common.{◌∙◌, List, ap, flat_map}
use Rattle.qm_tables.specs.Boxed.{contents}
use Rattle.qm_kinds.specs.declared.query.Row.{Row}
use Rattle.qm_scan.specs.Listed.{is_queue_listed, rows_below, rows_of_queue}
use Rattle.qm_scan.proofs.Put.{joined, listed_alone}
use Rattle.qm_scan.proofs.all.queue_rows.Goals as goal

pub returns : goal.returns
returns c =
    c.of_parts.ensures
    ∙ ap (λ (parts : List (List Row)). flat_map (λ part. part) parts) c.in_ok-parts.ensures
    ∙ joined (rows_of_queue c.args.query.now (contents c.args.entries.now)) c.args.queues.now c.in_ok-groups.groups.items c.in_ok-groups.ensures.count c.in_ok-groups.ensures.below
    ∙ listed_alone (rows_below c.args.query.now (contents c.args.entries.now)) (is_queue_listed c.args.query.now) c.args.queues.now
