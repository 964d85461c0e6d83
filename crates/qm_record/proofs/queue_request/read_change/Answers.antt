use Rattle.qm_record.specs.Reading.{change_at}
use Rattle.qm_record.proofs.There.{then_there, kept_there, all_there}
use Rattle.qm_record.proofs.queue_request.read_change.Goals as goal

pub returns-in-Err : goal.returns-in-Err
unfolding change_at
returns-in-Err c =
    then_there _ c.in_ok-limit.ensures (
    kept_there _ _ c.in_ok-characteristics.characteristics c.in_ok-characteristics.ensures (λ characteristics.
    then_there _ c.in_ok-form.ensures (
    then_there _ c.in_ok-blocks.ensures (
    then_there _ c.in_ok-by_size.ensures (
    then_there _ c.in_ok-retain.ensures (
    all_there _ _))))))
