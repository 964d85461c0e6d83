use Rattle.qm_model.specs.Folding.{no_system}
use Rattle.qm_world.proofs.Rows.{next_row}
use Rattle.qm_world.proofs.beginning.system_of_rows.Goals as goal

pub loop-row-preserved : goal.loop-row-preserved
loop-row-preserved c =
    next_row no_system c.args.rows.now c.loop-row.row-index c.row-item.result c.loop-row.system c.add_row.new.system c.loop-row-test.true c.row-item.is c.loop-row.invariant
    (c.in_ok-add_row.ensures c.row-item.result.moment c.row-item.result.node)
