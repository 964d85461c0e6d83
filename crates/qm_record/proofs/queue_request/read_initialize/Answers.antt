use Rattle.qm_kinds.specs.declared.record.Body.TheVariants as body
use Rattle.qm_kinds.specs.declared.request.Request.TheVariants as ask
use Rattle.qm_record.specs.Reading.{initialize_at, new_queue_at}
use Rattle.qm_record.proofs.There.{made_there, then_there, kept_there, all_there}
use Rattle.qm_record.proofs.queue_request.read_initialize.Goals as goal

pub returns-in-Err : goal.returns-in-Err
unfolding initialize_at new_queue_at
returns-in-Err c =
    made_there (λ x. body.Ask (ask.InitializeQueue x)) (
    then_there _ c.in_ok-name.ensures (
    then_there _ c.in_ok-kind.ensures (
    then_there _ c.in_ok-node.ensures (
    then_there _ c.in_ok-device.ensures (
    kept_there _ _ c.in_ok-targets.targets c.in_ok-targets.ensures (λ targets.
    kept_there _ _ c.in_ok-change.change c.in_ok-change.ensures (λ change.
    then_there _ c.in_ok-start.ensures (
    all_there _ _))))))))
