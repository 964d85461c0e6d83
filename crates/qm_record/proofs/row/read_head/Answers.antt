use Rattle.qm_record.specs.Reading.{head_at}
use Rattle.qm_record.proofs.There.{then_there, kept_there, all_there}
use Rattle.qm_record.proofs.row.read_head.Goals as goal

pub returns-in-Err : goal.returns-in-Err
unfolding head_at
returns-in-Err c =
    kept_there _ _ c.in_ok-nodes.nodes c.in_ok-nodes.ensures (λ nodes.
    kept_there _ _ c.in_ok-may.may c.in_ok-may.ensures (λ may.
    then_there _ c.in_ok-next_entry.ensures.value (
    then_there _ c.in_ok-next_run.ensures.value (
    then_there _ c.in_ok-last.ensures (
    all_there _ _)))))
