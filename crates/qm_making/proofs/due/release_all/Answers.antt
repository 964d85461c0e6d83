use Rattle.std.proofs.Common.{◌≡◌, ◌∙◌, nat_lt, not, cond, List, filter, map, length, Some, None, ap, refl, sym, subst, arith, option_and_then}
use Rattle.qm_tables.specs.Boxed.{contents}
use Rattle.qm_model.specs.Common.{Entry, entry_at, is_over}
use Rattle.qm_parts.specs.Tables.{Tables}
use Rattle.qm_tables.proofs.SpoolCounting.{counts_kept}
use Rattle.qm_tables.specs.SpoolCounts.{CountsOf}
use Rattle.qm_image.specs.Timers.{AreTimersOf, entries_at}
use Rattle.qm_tables.specs.Timers.{moment_of}
use Rattle.qm_image.proofs.Timed.{timers_found, no_more_left}
use Rattle.qm_making.proofs.due.release_all.Goals as goal

pub invariant_of-image : goal.invariant_of-image
invariant_of-image c =
    let is : c.remove_due_timers.new.self.entries ≡ entries_at c.args.now c.args.image.now.parts.entries =
    ap (λ (t : Tables). t.entries) c.remove_due_timers.ensures.tables ∙ ap (λ (t : Tables). t.entries) c.wake.ensures
    ∙ ap (λ (t : Tables). map (entry_at c.args.now) t.entries) c.remove_over.ensures in
    let left : c.remove_due_timers.new.self.entries ≡ entries_at c.args.now (contents c.entries.result.now) = is ∙ ap (entries_at c.args.now) (sym c.entries.ensures) in
    let timers : c.wake.new.self.timers ≡ c.args.image.now.parts.timers = ap (λ (t : Tables). t.timers) c.wake.ensures ∙ ap (λ (t : Tables). t.timers) c.remove_over.ensures in
    record {
      counted = subst (λ (es : List Entry). CountsOf es c.leave_files.new.spool.counts) (sym left)
          (counts_kept (filter (λ (e : Entry). not (is_over c.args.now e.state)) (contents c.entries.result.now)) (entry_at c.args.now) c.leave_files.new.spool.counts (λ e. refl) c.leave_files.ensures.counts);
      timed = subst (λ (es : List Entry). AreTimersOf es c.remove_due_timers.new.self.timers) (sym is)
          (timers_found c.args.now c.args.image.now.parts.entries c.args.image.now.parts.timers c.remove_due_timers.new.self.timers c.see_entries.ensures c.args.image.now.timed
          (λ m. c.remove_due_timers.ensures.each m ∙ ap (λ ts. option_and_then (λ at. cond (nat_lt c.args.now at) (Some at) None) (moment_of m ts)) timers));
    }

pub returns-clause-room : goal.returns-clause-room
returns-clause-room c =
    let before = ap (λ (t : Tables). t.spare_timers) c.wake.ensures ∙ ap (λ (t : Tables). t.spare_timers) c.remove_over.ensures in
    omega (arith, before, c.remove_due_timers.ensures.room, ap (λ (t : Tables). length t.timers) c.remove_due_timers.ensures.tables, no_more_left c.args.now c.wake.new.self.timers)
