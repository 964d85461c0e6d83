use Rattle.std.proofs.Common.{arith}
use Rattle.std.proofs.lemmas.List.Sums.{count_by-le-length}
use Rattle.qm_model.specs.Merging.{waits_in}
use Rattle.qm_image.specs.Image.{system_of}
use Rattle.qm_making.proofs.Entries.{timers_moved, counts_moved}
use Rattle.qm_making.proofs.merging.merge.Goals as goal

pub overflow_cast-result : goal.overflow_cast-result
unfolding system_of
overflow_cast-result c =
    omega (arith, c.merge-moved.ensures.moved, count_by-le-length (waits_in c.args.from.now) c.args.image.now.parts.entries, c.requires.sound.entries.few)

pub invariant_of-image : goal.invariant_of-image
invariant_of-image c =
    rw c.merge-moved.ensures.entries record {
      counted = counts_moved c.args.to.now c.args.from.now c.args.image.now.parts.entries c.args.image.now.spool.counts c.args.image.now.counted;
      timed = timers_moved c.args.to.now c.args.from.now c.args.image.now.parts.entries c.args.image.now.parts.timers c.args.image.now.timed;
    }
