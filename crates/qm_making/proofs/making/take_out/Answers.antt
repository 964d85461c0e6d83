use Rattle.std.proofs.Common.{◌≡◌, ◌∙◌, ◌==◌, cond, List, None, refl, sym, ap, subst}
use Rattle.qm_model.specs.Common.{Entry, with_entry}
use Rattle.qm_parts.proofs.Left.{absent_stays}
use Rattle.qm_parts.specs.Tables.{Tables}
use Rattle.qm_tables.proofs.SpoolCounting.{counts_gone}
use Rattle.qm_tables.specs.SpoolCounts.{CountsOf}
use Rattle.qm_image.specs.Timers.{AreTimersOf}
use Rattle.qm_tables.specs.Timers.{moment_of}
use Rattle.qm_image.specs.Image.{system_of}
use Rattle.qm_making.proofs.Entries.{found_is_counted}
use Rattle.qm_image.proofs.Timed.{timers_without, no_timer}
use Rattle.qm_making.proofs.making.take_out.Goals as goal

pub leave-requires : goal.leave-requires
leave-requires c =
    found_is_counted (λ (e : Entry). e.number == c.args.number) c.in-Some.entry.now c.args.image.now.parts.entries c.args.image.now.spool.counts c.args.image.now.counted (sym c.in-Some.ensures.found)

pub invariant_of-image : goal.invariant_of-image
invariant_of-image c =
    let left : c.set_timer.new.self.entries ≡ with_entry c.args.number (λ e. None) c.args.image.now.parts.entries =
    ap (λ (t : Tables). t.entries) c.set_timer.ensures.tables ∙ ap (λ (t : Tables). t.entries) c.remove_entry.ensures.tables in
    let timers : c.remove_entry.new.self.timers ≡ c.args.image.now.parts.timers = ap (λ (t : Tables). t.timers) c.remove_entry.ensures.tables in
    record {
      counted = subst (λ (es : List Entry). CountsOf es c.leave.new.self.counts) (sym left)
          (counts_gone c.args.number c.args.image.now.parts.entries c.in-Some.entry.now c.args.image.now.spool.counts c.leave.new.self.counts c.in-Some.ensures.in_order (sym c.in-Some.ensures.found) c.args.image.now.counted c.leave.ensures.counts);
      timed = subst (λ (es : List Entry). AreTimersOf es c.set_timer.new.self.timers) (sym left)
          (timers_without c.args.number c.args.image.now.parts.entries c.args.image.now.parts.timers c.set_timer.new.self.timers c.args.image.now.timed
          (λ m. c.set_timer.ensures.each m ∙ ap (λ ts. cond (c.args.number == m) None (moment_of m ts)) timers));
    }

pub returns-in_default-clause-rows : goal.returns-in_default-clause-rows
unfolding system_of
returns-in_default-clause-rows c =
    rw (absent_stays c.args.number (λ (e : Entry). None) c.args.image.now.parts.entries (sym c.in_default.ensures.found)) refl

pub returns-in_default-clause-timers : goal.returns-in_default-clause-timers
returns-in_default-clause-timers c = no_timer c.args.number c.args.image.now.parts.entries c.args.image.now.parts.timers c.args.image.now.timed (sym c.in_default.ensures.found)
