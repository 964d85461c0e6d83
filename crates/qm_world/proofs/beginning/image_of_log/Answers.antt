use Rattle.qm_world.proofs.Rows.{front_consistent, front_rows}
use Rattle.qm_world.proofs.beginning.image_of_log.Goals as goal

pub image_of_rows-requires : goal.image_of_rows-requires
image_of_rows-requires c = record {
  rows = front_rows c.args.log.now c.requires c.count_rows-rows.result c.count_rows-rows.ensures;
  consistent = front_consistent c.args.log.now c.requires c.count_rows-rows.result c.count_rows-rows.ensures;
}
