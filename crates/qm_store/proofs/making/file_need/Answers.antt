use Rattle.std.proofs.Common.{◌<◌, sym, arith, length}
use Rattle.qm_store.proofs.Made.{size_more}
use Rattle.qm_store.proofs.making.file_need.Goals as goal

pub loop-body-preserved : goal.loop-body-preserved
loop-body-preserved c =
    let within : c.loop-body.body-index < length c.args.bodies.now = omega arith in
    let more = size_more c.args.bodies.now c.loop-body.body-index c.body-item.result within (sym c.body-item.is) in
    omega (arith, more, c.loop-body.invariant, c.saturating_add.ensures, c.len.ensures, c.saturating_add-need.ensures)
