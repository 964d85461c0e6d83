use Rattle.std.proofs.Common.{◌∙◌, ap, sym}
use Rattle.qm_model.specs.Due.{entry_at}
use Rattle.qm_tables.proofs.Boxes.{value_of, contents_more}
use Rattle.qm_tables.proofs.entries.sweep.wake.Goals as goal

pub loop-entry-preserved : goal.loop-entry-preserved
loop-entry-preserved c =
    contents_more c.loop-entry.boxes (entry_at c.args.now) c.args.boxes.now c.loop-entry.entry-index c.entry-item.result c.as_mut.result.now c.wake_one.new.entry
    c.loop-entry-test.true c.loop-entry.auto.boxes c.loop-entry.invariant c.entry-item.is (c.as_mut.ensures.value ∙ ap value_of (sym c.entry-item.is)) c.wake_one.ensures
