use Rattle.std.proofs.Common.{◌≡◌, ◌∙◌, ap, sym, subst}
use Rattle.qm_model.specs.Stopping.{entries_on_stop}
use Rattle.qm_parts.specs.Tables.{Tables}
use Rattle.qm_image.specs.Timers.{AreTimersOf}
use Rattle.qm_making.proofs.Stopped.{timers_on_stop, counts_on_stop}
use Rattle.qm_making.proofs.making.stop_queue.Goals as goal

pub invariant_of-image : goal.invariant_of-image
invariant_of-image c =
    let same : c.reset_jobs.new.parts.entries ≡ entries_on_stop c.args.how c.args.name.now c.args.image.now.parts.entries =
    ap (λ (t : Tables). t.entries) c.reset_jobs.ensures ∙ ap (λ (t : Tables). entries_on_stop c.args.how c.args.name.now t.entries) c.set_stopped.ensures in
    let timers : c.reset_jobs.new.parts.timers ≡ c.args.image.now.parts.timers = ap (λ (t : Tables). t.timers) c.reset_jobs.ensures ∙ ap (λ (t : Tables). t.timers) c.set_stopped.ensures in
    rw same record {
      counted = counts_on_stop c.args.how c.args.name.now c.args.image.now.parts.entries c.args.image.now.spool.counts c.args.image.now.counted;
      timed = subst (AreTimersOf (entries_on_stop c.args.how c.args.name.now c.args.image.now.parts.entries)) (sym timers)
          (timers_on_stop c.args.how c.args.name.now c.args.image.now.parts.entries c.args.image.now.parts.timers c.args.image.now.timed);
    }
