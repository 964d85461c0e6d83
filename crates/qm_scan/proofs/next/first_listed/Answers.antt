use Rattle.std.proofs.Common.{◌∙◌, sym}
use Rattle.qm_tables.specs.Boxed.{contents}
use Rattle.qm_scan.specs.Listed.{is_entry_listed}
use Rattle.qm_scan.proofs.Boxed.{value_at, value_within}
use Rattle.qm_scan.proofs.Found.{find_hit, find_miss}
use Rattle.qm_scan.proofs.next.first_listed.Goals as goal

pub returns-then-is_entry_listed : goal.returns-then-is_entry_listed
returns-then-is_entry_listed c =
    let is = value_at c.args.entries.now c.loop-boxed.boxed-index c.boxed-item.result c.as_ref-entry.result.now c.loop-boxed-test.true c.boxed-item.is c.as_ref-entry.ensures in
    let within = value_within c.args.entries.now c.loop-boxed.boxed-index c.boxed-item.result c.as_ref-entry.result.now c.loop-boxed-test.true c.boxed-item.is c.as_ref-entry.ensures in
    sym (find_hit (is_entry_listed c.args.query.now c.args.queue.now) (contents c.args.entries.now) c.loop-boxed.boxed-index c.as_ref-entry.result.now within is
    (sym c.is_entry_listed.ensures ∙ c.if-is_entry_listed.true))
    ∙ c.loop-boxed.invariant

pub loop-boxed-preserved : goal.loop-boxed-preserved
loop-boxed-preserved c =
    let is = value_at c.args.entries.now c.loop-boxed.boxed-index c.boxed-item.result c.as_ref-entry.result.now c.loop-boxed-test.true c.boxed-item.is c.as_ref-entry.ensures in
    let within = value_within c.args.entries.now c.loop-boxed.boxed-index c.boxed-item.result c.as_ref-entry.result.now c.loop-boxed-test.true c.boxed-item.is c.as_ref-entry.ensures in
    find_miss (is_entry_listed c.args.query.now c.args.queue.now) (contents c.args.entries.now) c.loop-boxed.boxed-index c.as_ref-entry.result.now within is
    (sym c.is_entry_listed.ensures ∙ c.if-is_entry_listed.false)
    ∙ c.loop-boxed.invariant
