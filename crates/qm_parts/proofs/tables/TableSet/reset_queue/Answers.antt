use Rattle.std.proofs.Common.{◌≡◌, ◌∙◌, List, map, ap}
use Rattle.qm_model.specs.Common.{Entry, Run, reset_in}
use Rattle.qm_tables.proofs.Numbers.{kept_as}
use Rattle.qm_parts.specs.Mirror.{reset_by}
use Rattle.qm_parts.specs.Tables.{Tables}
use Rattle.qm_parts.proofs.Left.{stays}
use Rattle.qm_parts.proofs.Resets.{runs_of_reset, all_reset}
use Rattle.qm_parts.proofs.tables.TableSet.reset_queue.Goals as goal

pub invariant_of-self : goal.invariant_of-self
invariant_of-self c =
    rw c.reset_each.ensures
    (stays c.self.inside.runs.runs c.self.inside.entries.entries _ c.self.invariant (runs_of_reset c.as_slice.result.now c.args.queue.now c.self.inside.entries.entries))

pub returns : goal.returns
returns c =
    let entries : c.reset_each.new.entries ≡ kept_as (map (reset_in c.args.queue.now) c.self.inside.entries.entries) c.self.inside.entries.spare =
    c.reset_each.ensures
    ∙ ap (λ (rs : List Run). kept_as (map (reset_by rs c.args.queue.now) c.self.inside.entries.entries) c.self.inside.entries.spare) c.as_slice.ensures.runs
    ∙ ap (λ (es : List Entry). kept_as es c.self.inside.entries.spare) (all_reset c.self.inside.runs.runs c.self.inside.entries.entries c.self.invariant c.see_order.ensures.entries c.args.queue.now) in
    rw entries (ap (λ (t : Tables). record t { entries = map (reset_in c.args.queue.now) t.entries }) c.self.view_is)
