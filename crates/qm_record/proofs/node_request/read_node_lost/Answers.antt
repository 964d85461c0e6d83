use Rattle.qm_record.specs.Reading.{node_lost_at}
use Rattle.qm_record.proofs.There.{kept_there, all_there}
use Rattle.qm_record.proofs.node_request.read_node_lost.Goals as goal

pub returns-in-Err : goal.returns-in-Err
unfolding node_lost_at
returns-in-Err c =
    kept_there _ _ c.in_ok-nodes.field-0 c.in_ok-nodes.ensures (λ nodes.
    all_there _ _)
