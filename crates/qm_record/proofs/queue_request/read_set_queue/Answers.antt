use Rattle.qm_record.specs.Reading.{set_queue_at}
use Rattle.qm_record.proofs.There.{then_there, kept_there, all_there}
use Rattle.qm_record.proofs.queue_request.read_set_queue.Goals as goal

pub returns-in-Err : goal.returns-in-Err
unfolding set_queue_at
returns-in-Err c =
    then_there _ c.in_ok-name.ensures (
    kept_there _ _ c.in_ok-change.field-0 c.in_ok-change.ensures (λ change.
    all_there _ _))
