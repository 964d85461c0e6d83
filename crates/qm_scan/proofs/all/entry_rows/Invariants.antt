use Rattle.std.proofs.Common.{◌≡◌, map, take, filter}
use Rattle.qm_tables.specs.Boxed.{contents}
use Rattle.qm_kinds.specs.declared.query.Row.TheVariants as row
use Rattle.qm_scan.specs.Listed.{is_entry_listed}
use Rattle.qm_scan.proofs.all.entry_rows.Given as goal

abbrev pub invariant-loop-boxed : goal.invariant-loop-boxed
invariant-loop-boxed l = l.rows.items ≡ map (λ e. row.Entry e) (filter (is_entry_listed l.query l.queue) (take l.boxed-index (contents l.entries)))
