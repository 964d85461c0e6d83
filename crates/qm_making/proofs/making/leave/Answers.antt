use Rattle.std.proofs.Common.{◌≡◌, ◌∙◌, ◌==◌, false, ℕ, List, Option, Some, cond, IfSome, ap, sym, subst, option_and_then, bytes_eq}
use Rattle.qm_model.specs.Common.{Entry, with_entry, entry_numbered}
use Rattle.qm_parts.specs.Mirror.{run_of_entry}
use Rattle.qm_parts.specs.Rooms.{HavePlacesFor}
use Rattle.qm_parts.specs.Tables.{Tables}
use Rattle.qm_tables.specs.SpoolCounts.{CountsOf}
use Rattle.qm_tables.specs.Timers.{moment_of}
use Rattle.qm_image.specs.Timers.{AreTimersOf}
use Rattle.qm_image.specs.Preparing.{IsLeftOf}
use Rattle.qm_making.proofs.Entries.{counts_kept_by}
use Rattle.qm_image.proofs.Timed.{timers_replaced}
use Rattle.qm_making.proofs.making.leave.Goals as goal

pub replace_entry-requires-clause-run : goal.replace_entry-requires-clause-run
replace_entry-requires-clause-run c =
    let es = c.args.image.now.parts.entries in
    let same : c.set_timer.new.self.entries ≡ es = ap (λ (t : Tables). t.entries) c.set_timer.ensures.tables in
    let left = subst (λ o. IfSome o (λ e. IsLeftOf e c.args.number (entry_numbered c.args.number es))) c.in-Some.is c.requires.left in
    subst (λ (xs : List Entry). IfSome (run_of_entry c.in-Some.entry) (λ r. option_and_then run_of_entry (entry_numbered c.in-Some.entry.number xs) ≡ Some r)) (sym same)
    (subst (λ (n : ℕ). IfSome (run_of_entry c.in-Some.entry) (λ r. option_and_then run_of_entry (entry_numbered n es) ≡ Some r)) (sym left.number_stays) left.run_stays)

pub replace_entry-requires-clause-places : goal.replace_entry-requires-clause-places
replace_entry-requires-clause-places c =
    let t = c.args.image.now.parts in
    let left = subst (λ o. IfSome o (λ e. IsLeftOf e c.args.number (entry_numbered c.args.number t.entries))) c.in-Some.is c.requires.left in
    let place = subst (λ o. IfSome o (λ e. IfSome (entry_numbered c.args.number t.entries) (λ old. bytes_eq old.home e.home ≡ false → HavePlacesFor e.home 1 t))) c.in-Some.is c.requires.place in
    subst (λ (u : Tables). IfSome (entry_numbered c.in-Some.entry.number u.entries) (λ old. bytes_eq old.home c.in-Some.entry.home ≡ false → HavePlacesFor c.in-Some.entry.home 1 u)) (sym c.set_timer.ensures.tables)
    (subst (λ (n : ℕ). IfSome (entry_numbered n t.entries) (λ old. bytes_eq old.home c.in-Some.entry.home ≡ false → HavePlacesFor c.in-Some.entry.home 1 t)) (sym left.number_stays) place)

pub invariant_of-image : goal.invariant_of-image
invariant_of-image c =
    let es = c.args.image.now.parts.entries in
    let left = subst (λ o. IfSome o (λ e. IsLeftOf e c.args.number (entry_numbered c.args.number es))) c.in-Some.is c.requires.left in
    let entries : c.replace_entry.new.self.entries ≡ with_entry c.in-Some.entry.number (λ e. Some c.in-Some.entry) es =
    ap (λ (t : Tables). t.entries) c.replace_entry.ensures.tables ∙ ap (λ (t : Tables). with_entry c.in-Some.entry.number (λ e. Some c.in-Some.entry) t.entries) c.set_timer.ensures.tables in
    let timers : c.replace_entry.new.self.timers ≡ c.set_timer.new.self.timers = ap (λ (t : Tables). t.timers) c.replace_entry.ensures.tables in
    record {
      counted = subst (λ (xs : List Entry). CountsOf xs c.args.image.now.spool.counts) (sym entries)
          (counts_kept_by c.args.number c.in-Some.entry es c.args.image.now.spool.counts c.requires.order c.args.image.now.counted left);
      timed = subst (AreTimersOf c.replace_entry.new.self.entries) (sym timers)
          (subst (λ (xs : List Entry). AreTimersOf xs c.set_timer.new.self.timers) (sym entries)
          (subst (λ (n : ℕ). AreTimersOf (with_entry n (λ e. Some c.in-Some.entry) es) c.set_timer.new.self.timers) (sym left.number_stays)
          (timers_replaced c.args.number c.in-Some.entry es c.args.image.now.parts.timers c.set_timer.new.self.timers left.number_stays left.there c.args.image.now.timed
          (λ m. c.set_timer.ensures.each m ∙ ap (λ (o : Option ℕ). cond (c.args.number == m) o (moment_of m c.args.image.now.parts.timers)) c.moment_in.ensures))));
    }
