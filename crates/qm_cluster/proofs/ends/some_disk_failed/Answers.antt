use Rattle.std.proofs.Common.{◌<◌, ◌∙◌, List, length, sym, ap, arith}
use Rattle.qm_history.specs.declared.event.Event.{Event}
use Rattle.qm_history.specs.Faults.{tells_disk_fault}
use Rattle.qm_cluster.proofs.Overlooked.{none_more, one_there}
use Rattle.qm_cluster.proofs.ends.some_disk_failed.Goals as goal

pub returns-then-tells_disk_fault : goal.returns-then-tells_disk_fault
returns-then-tells_disk_fault c =
    let within : c.turns.turn-index < length c.args.turns.now = omega (arith, c.turns-test.true, c.turns.auto.turn-index-end) in
    sym
    (one_there c.args.turns.now c.turns.turn-index c.turn-item.result within (sym c.turn-item.is)
    (ap (λ (events : List Event). tells_disk_fault events) (sym c.as_slice.ensures) ∙ sym c.tells_disk_fault.ensures ∙ c.if-tells_disk_fault.true))

pub turns-preserved : goal.turns-preserved
turns-preserved c =
    let within : c.turns.turn-index < length c.args.turns.now = omega (arith, c.turns-test.true, c.turns.auto.turn-index-end) in
    none_more c.args.turns.now c.turns.turn-index c.turn-item.result within (sym c.turn-item.is) c.turns.invariant
    (ap (λ (events : List Event). tells_disk_fault events) (sym c.as_slice.ensures) ∙ sym c.tells_disk_fault.ensures ∙ c.if-tells_disk_fault.false)
