use Rattle.std.proofs.Common.{sym}
use Rattle.qm_image.specs.Image.{system_of}
use Rattle.qm_jobs.proofs.merging.merge_refusal.Goals as goal

pub returns : goal.returns
unfolding system_of
returns c = c.merge_refusal.ensures (system_of c.args.image.now) (sym c.queue_table.ensures)
