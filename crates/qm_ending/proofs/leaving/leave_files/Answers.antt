use Rattle.std.proofs.Common.{◌≡◌, ◌∙◌, ◌+◌, ◌++◌, List, not, take, drop, ap, sym, subst, filter}
use Rattle.qm_tables.specs.Boxed.{contents}
use Rattle.qm_kinds.specs.declared.entry.Entry.{Entry}
use Rattle.qm_tables.specs.Spool.{Kept}
use Rattle.qm_tables.specs.SpoolCounts.{CountsOf}
use Rattle.qm_tables.proofs.SpoolCounting.{counted_somewhere, counts_left}
use Rattle.qm_ending.specs.Leaving.{goes}
use Rattle.qm_rules.proofs.Boxed.{value_at, value_within, next_left, next_kept, next_gone}
use Rattle.qm_ending.proofs.leaving.leave_files.Goals.{then-goes, else-goes}
use Rattle.qm_ending.proofs.leaving.leave_files.Goals as goal

pub leave-requires : goal.leave-requires
leave-requires c =
    let is = value_at c.args.entries.now c.loop-boxed.boxed-index c.boxed-item.result c.as_ref-entry.result.now c.loop-boxed-test.true c.boxed-item.is c.as_ref-entry.ensures in
    let within = value_within c.args.entries.now c.loop-boxed.boxed-index c.boxed-item.result c.as_ref-entry.result.now c.loop-boxed-test.true c.boxed-item.is c.as_ref-entry.ensures in
    counted_somewhere c.loop-boxed.spool.counts c.as_ref-entry.result.now
    (filter (λ (e : Entry). not (goes c.args.leaving.now e)) (take c.loop-boxed.boxed-index (contents c.args.entries.now))) (drop (c.loop-boxed.boxed-index + 1) (contents c.args.entries.now))
    (subst (λ (es : List Entry). CountsOf es c.loop-boxed.spool.counts)
    (next_left (λ (e : Entry). not (goes c.args.leaving.now e)) (contents c.args.entries.now) c.loop-boxed.boxed-index c.as_ref-entry.result.now within is)
    c.loop-boxed.invariant.counts)

pub loop-boxed-preserved : goal.loop-boxed-preserved
loop-boxed-preserved c =
    let is = value_at c.args.entries.now c.loop-boxed.boxed-index c.boxed-item.result c.as_ref-entry.result.now c.loop-boxed-test.true c.boxed-item.is c.as_ref-entry.ensures in
    let within = value_within c.args.entries.now c.loop-boxed.boxed-index c.boxed-item.result c.as_ref-entry.result.now c.loop-boxed-test.true c.boxed-item.is c.as_ref-entry.ensures in
    let before = subst (λ (es : List Entry). CountsOf es c.loop-boxed.spool.counts)
    (next_left (λ (e : Entry). not (goes c.args.leaving.now e)) (contents c.args.entries.now) c.loop-boxed.boxed-index c.as_ref-entry.result.now within is)
    c.loop-boxed.invariant.counts in
    elim c.if-goes.branch [
      | then-goes w ↦ record {
        counts = subst (λ (k : Kept). CountsOf (filter (λ (e : Entry). not (goes c.args.leaving.now e)) (take (c.loop-boxed.boxed-index + 1) (contents c.args.entries.now)) ++ drop (c.loop-boxed.boxed-index + 1) (contents c.args.entries.now)) k.counts) (sym w.spool-is)
            (subst (λ (es : List Entry). CountsOf es w.leave.new.self.counts)
            (sym (next_gone (λ (e : Entry). not (goes c.args.leaving.now e)) (contents c.args.entries.now) c.loop-boxed.boxed-index c.as_ref-entry.result.now within is (ap not (sym c.goes.ensures ∙ w.if-goes.true))))
            (counts_left c.loop-boxed.spool.counts w.leave.new.self.counts c.as_ref-entry.result.now
            (filter (λ (e : Entry). not (goes c.args.leaving.now e)) (take c.loop-boxed.boxed-index (contents c.args.entries.now))) (drop (c.loop-boxed.boxed-index + 1) (contents c.args.entries.now)) before w.leave.ensures.counts));
        files = subst (λ (k : Kept). k ≡ record c.args.spool.now { counts = k.counts }) (sym w.spool-is) (w.leave.ensures.files ∙ ap (λ (k : Kept). record k { counts = w.leave.new.self.counts }) c.loop-boxed.invariant.files);
      }
      | else-goes w ↦ record {
        counts = subst (λ (k : Kept). CountsOf (filter (λ (e : Entry). not (goes c.args.leaving.now e)) (take (c.loop-boxed.boxed-index + 1) (contents c.args.entries.now)) ++ drop (c.loop-boxed.boxed-index + 1) (contents c.args.entries.now)) k.counts) (sym w.spool-is)
            (subst (λ (es : List Entry). CountsOf es c.loop-boxed.spool.counts)
            (sym (next_kept (λ (e : Entry). not (goes c.args.leaving.now e)) (contents c.args.entries.now) c.loop-boxed.boxed-index c.as_ref-entry.result.now within is (ap not (sym c.goes.ensures ∙ w.if-goes.false))))
            c.loop-boxed.invariant.counts);
        files = subst (λ (k : Kept). k ≡ record c.args.spool.now { counts = k.counts }) (sym w.spool-is) c.loop-boxed.invariant.files;
      }
    ]
