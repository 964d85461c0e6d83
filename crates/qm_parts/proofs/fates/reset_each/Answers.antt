use Rattle.std.proofs.Common.{◌∙◌, ◌<◌, List, Some, length, sym, ap, arith}
use Rattle.qm_model.specs.Common.{Entry, with_entry, reset_in}
use Rattle.qm_tables.specs.Entries.{Kept}
use Rattle.qm_tables.proofs.Numbers.{kept_as}
use Rattle.qm_parts.proofs.Resets.{reset_by_none, reset_step, reset_pass}
use Rattle.qm_parts.proofs.fates.reset_each.Goals as goal
use Rattle.qm_parts.proofs.fates.reset_each.Goals.{then-eq, else-eq}

pub loop-run-init : goal.loop-run-init
loop-run-init c = ap (λ (es : List Entry). kept_as es c.args.entries.now.spare) (reset_by_none c.args.queue.now c.args.entries.now.entries)

pub loop-run-preserved : goal.loop-run-preserved
loop-run-preserved c =
    let within : c.loop-run.run-index < length c.args.runs.now = omega arith in
    elim c.if-eq.branch [
      | then-eq w ↦
          w.entries-is
          ∙ w.reset_entry.ensures
          ∙ ap (λ (k : Kept). kept_as (with_entry c.run-item.result.entry (λ (e : Entry). Some (reset_in c.args.queue.now e)) k.entries) k.spare) c.loop-run.invariant
          ∙ ap (λ (es : List Entry). kept_as es c.args.entries.now.spare)
          (reset_step c.args.runs.now c.args.queue.now c.loop-run.run-index within c.run-item.result c.run-item.is c.args.entries.now.entries (sym c.eq.ensures ∙ w.if-eq.true))
      | else-eq w ↦
          w.entries-is
          ∙ c.loop-run.invariant
          ∙ ap (λ (es : List Entry). kept_as es c.args.entries.now.spare)
          (reset_pass c.args.runs.now c.args.queue.now c.loop-run.run-index within c.run-item.result c.run-item.is c.args.entries.now.entries (sym c.eq.ensures ∙ w.if-eq.false))
    ]
