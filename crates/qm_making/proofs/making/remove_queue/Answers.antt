use Rattle.std.proofs.Common.{◌≡◌, ◌∙◌, not, List, filter, ap, sym, subst, bytes_eq}
use Rattle.qm_kinds.specs.declared.entry.Entry.{Entry}
use Rattle.qm_parts.specs.Tables.{Tables}
use Rattle.qm_tables.specs.SpoolCounts.{CountsOf}
use Rattle.qm_image.specs.Timers.{AreTimersOf}
use Rattle.qm_image.proofs.Timed.{timers_elsewhere}
use Rattle.qm_making.proofs.making.remove_queue.Goals as goal

pub invariant_of-image : goal.invariant_of-image
invariant_of-image c =
    let left : c.remove_queue.new.self.entries ≡ filter (λ (e : Entry). not (bytes_eq e.home c.args.name.now)) c.args.image.now.parts.entries =
    ap (λ (t : Tables). t.entries) c.remove_queue.ensures ∙ ap (λ (t : Tables). t.entries) c.remove_of_home.ensures
    ∙ ap (λ (t : Tables). filter (λ (e : Entry). not (bytes_eq e.home c.args.name.now)) t.entries) c.remove_timers_of.ensures.tables in
    let timers : c.remove_queue.new.self.timers ≡ c.remove_timers_of.new.self.timers =
    ap (λ (t : Tables). t.timers) c.remove_queue.ensures ∙ ap (λ (t : Tables). t.timers) c.remove_of_home.ensures in
    record {
      counted = subst (λ (es : List Entry). CountsOf es c.leave_files.new.spool.counts)
          (ap (λ (es : List Entry). filter (λ (e : Entry). not (bytes_eq e.home c.args.name.now)) es) c.entries.ensures ∙ sym left) c.leave_files.ensures.counts;
      timed = subst (λ (es : List Entry). AreTimersOf es c.remove_queue.new.self.timers) (sym left)
          (subst (AreTimersOf (filter (λ (e : Entry). not (bytes_eq e.home c.args.name.now)) c.args.image.now.parts.entries)) (sym timers)
          (timers_elsewhere c.args.name.now c.args.image.now.parts.entries c.args.image.now.parts.timers c.remove_timers_of.new.self.timers c.see_entries.ensures c.args.image.now.timed c.remove_timers_of.ensures.each));
    }
