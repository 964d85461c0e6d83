use Rattle.qm_kinds.specs.declared.record.Body.TheVariants as body
use Rattle.qm_record.specs.Reading.{queue_row_at, queue_at}
use Rattle.qm_record.proofs.There.{made_there, then_there, kept_there, all_there}
use Rattle.qm_record.proofs.row.read_queue_row.Goals as goal

pub returns-in-Err : goal.returns-in-Err
unfolding queue_row_at queue_at
returns-in-Err c =
    made_there (λ x. body.Queue x) (
    then_there _ c.in_ok-name.ensures (
    then_there _ c.in_ok-kind.ensures (
    then_there _ c.in_ok-state.ensures (
    then_there _ c.in_ok-node.ensures (
    then_there _ c.in_ok-device.ensures (
    then_there _ c.in_ok-limit.ensures (
    then_there _ c.in_ok-characteristics.ensures (
    then_there _ c.in_ok-mounted.ensures (
    then_there _ c.in_ok-lower.ensures.value (
    then_there _ c.in_ok-upper.ensures.value (
    then_there _ c.in_ok-by_size.ensures (
    then_there _ c.in_ok-retain.ensures (
    kept_there _ _ c.in_ok-targets.field-0 c.in_ok-targets.ensures (λ targets.
    all_there _ _))))))))))))))
