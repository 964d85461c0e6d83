use Rattle.qm_kinds.specs.declared.record.Body.TheVariants as body
use Rattle.qm_kinds.specs.declared.request.Request.TheVariants as ask
use Rattle.qm_record.specs.Reading.{submit_at, job_at}
use Rattle.qm_record.proofs.There.{made_there, then_there, kept_there, all_there}
use Rattle.qm_record.proofs.request.read_submit.Goals as goal

pub returns-in-Err : goal.returns-in-Err
unfolding submit_at job_at
returns-in-Err c =
    made_there (λ x. body.Ask (ask.Submit x)) (
    then_there _ c.in_ok-user.ensures (
    then_there _ c.in_ok-kind.ensures (
    then_there _ c.in_ok-queue.ensures (
    then_there _ c.in_ok-file.ensures (
    then_there _ c.in_ok-name.ensures (
    then_there _ c.in_ok-priority.ensures (
    then_there _ c.in_ok-after.ensures (
    then_there _ c.in_ok-hold.ensures (
    then_there _ c.in_ok-retain.ensures (
    then_there _ c.in_ok-restart.ensures (
    kept_there _ _ c.in_ok-characteristics.characteristics c.in_ok-characteristics.ensures (λ characteristics.
    then_there _ c.in_ok-form.ensures (
    then_there _ c.in_ok-copies.ensures (
    then_there _ c.in_ok-flag.ensures (
    all_there _ _)))))))))))))))
