use Rattle.qm_making.proofs.Entries.{timers_with_fate, counts_with_fate}
use Rattle.qm_making.proofs.making.cut_short.Goals as goal

pub invariant_of-image : goal.invariant_of-image
invariant_of-image c =
    rw c.set_fate.ensures record {
      counted = counts_with_fate c.args.entry c.args.fate c.args.image.now.parts.entries c.args.image.now.spool.counts c.args.image.now.counted;
      timed = timers_with_fate c.args.entry c.args.fate c.args.image.now.parts.entries c.args.image.now.parts.timers c.args.image.now.timed;
    }
