use Rattle.qm_record.specs.Reading.{entry_change_at}
use Rattle.qm_record.proofs.There.{then_there, kept_there, all_there}
use Rattle.qm_record.proofs.entry_request.read_entry_change.Goals as goal

pub returns-in-Err : goal.returns-in-Err
unfolding entry_change_at
returns-in-Err c =
    then_there _ c.in_ok-release.ensures (
    then_there _ c.in_ok-hold.ensures (
    then_there _ c.in_ok-after.ensures (
    then_there _ c.in_ok-priority.ensures (
    then_there _ c.in_ok-name.ensures (
    kept_there _ _ c.in_ok-characteristics.characteristics c.in_ok-characteristics.ensures (λ characteristics.
    then_there _ c.in_ok-form.ensures (
    then_there _ c.in_ok-queue.ensures (
    then_there _ c.in_ok-restart.ensures (
    then_there _ c.in_ok-retain.ensures (
    all_there _ _))))))))))
