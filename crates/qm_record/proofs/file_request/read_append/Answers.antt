use Rattle.qm_record.specs.Reading.{append_at}
use Rattle.qm_record.proofs.There.{then_there, kept_there, all_there}
use Rattle.qm_record.proofs.file_request.read_append.Goals as goal

pub returns-in-Err : goal.returns-in-Err
unfolding append_at
returns-in-Err c =
    then_there _ c.in_ok-file.ensures (
    kept_there _ _ c.in_ok-text.field-0 c.in_ok-text.ensures (λ text.
    all_there _ _))
