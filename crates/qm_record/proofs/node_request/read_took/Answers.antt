use Rattle.qm_record.specs.Reading.{took_at}
use Rattle.qm_record.proofs.There.{then_there, kept_there, all_there}
use Rattle.qm_record.proofs.node_request.read_took.Goals as goal

pub returns-in-Err : goal.returns-in-Err
unfolding took_at
returns-in-Err c =
    then_there _ c.in_ok-epoch.ensures.value (
    kept_there _ _ c.in_ok-gone.gone c.in_ok-gone.ensures (λ gone.
    kept_there _ _ c.in_ok-up.up c.in_ok-up.ensures (λ up.
    kept_there _ _ c.in_ok-may.may c.in_ok-may.ensures (λ may.
    all_there _ _))))
