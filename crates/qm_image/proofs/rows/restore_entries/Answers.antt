use Rattle.std.proofs.Common.{◌≡◌, ◌∙◌, ◌<◌, List, length, get_or, ap, subst}
use Rattle.qm_kinds.specs.declared.entry.Entry.{Entry}
use Rattle.qm_tables.specs.Spool.{Kept}
use Rattle.qm_image.proofs.Restoring.{number_last, run_free, restored_more, counted_more, timed_more}
use Rattle.qm_image.proofs.rows.restore_entries.Goals as goal

pub restore_one-requires-clause-last : goal.restore_one-requires-clause-last
restore_one-requires-clause-last c =
    let within = subst (λ (es : List Entry). c.loop-entry.entry-index < length es) c.as_slice-entry-items.ensures c.loop-entry-test.true in
    let is = subst (λ (es : List Entry). c.entry-item.result ≡ get_or es c.loop-entry.entry-index c.entry-item.result) c.as_slice-entry-items.ensures c.entry-item.is in
    number_last c.args.system.now c.requires.consistent c.loop-entry.entry-index c.entry-item.result within is c.loop-entry.parts c.loop-entry.invariant.tables

pub restore_one-requires-clause-run : goal.restore_one-requires-clause-run
restore_one-requires-clause-run c =
    let within = subst (λ (es : List Entry). c.loop-entry.entry-index < length es) c.as_slice-entry-items.ensures c.loop-entry-test.true in
    let is = subst (λ (es : List Entry). c.entry-item.result ≡ get_or es c.loop-entry.entry-index c.entry-item.result) c.as_slice-entry-items.ensures c.entry-item.is in
    run_free c.args.system.now c.requires.consistent c.loop-entry.entry-index c.entry-item.result within is c.loop-entry.parts c.loop-entry.invariant.tables

pub loop-entry-preserved : goal.loop-entry-preserved
loop-entry-preserved c =
    let within = subst (λ (es : List Entry). c.loop-entry.entry-index < length es) c.as_slice-entry-items.ensures c.loop-entry-test.true in
    let is = subst (λ (es : List Entry). c.entry-item.result ≡ get_or es c.loop-entry.entry-index c.entry-item.result) c.as_slice-entry-items.ensures c.entry-item.is in
    record {
      tables = restored_more c.args.system.now c.requires.consistent c.loop-entry.entry-index c.entry-item.result within is c.loop-entry.parts c.loop-entry.invariant.tables c.restore_one.new.parts c.in_ok-restore_one.ensures.entries c.restore_one.ensures.tables;
      files = ap (λ (k : Kept). k.files) c.restore_one.ensures.files ∙ c.loop-entry.invariant.files;
      counts = counted_more c.args.system.now c.requires.consistent c.loop-entry.entry-index c.entry-item.result within is c.loop-entry.parts c.loop-entry.invariant.tables c.restore_one.new.parts c.in_ok-restore_one.ensures.entries c.loop-entry.spool.counts c.restore_one.new.spool.counts c.loop-entry.invariant.counts c.in_ok-restore_one.ensures.counts;
      timers = timed_more c.args.system.now c.requires.consistent c.loop-entry.entry-index c.entry-item.result within is c.loop-entry.parts c.loop-entry.invariant.tables c.restore_one.new.parts c.in_ok-restore_one.ensures.entries c.loop-entry.parts.timers c.restore_one.new.parts.timers c.loop-entry.invariant.timers c.in_ok-restore_one.ensures.timers;
    }
