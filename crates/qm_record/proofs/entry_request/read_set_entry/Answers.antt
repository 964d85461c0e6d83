use Rattle.qm_kinds.specs.declared.record.Body.TheVariants as body
use Rattle.qm_kinds.specs.declared.request.Request.TheVariants as ask
use Rattle.qm_record.specs.Reading.{set_entry_at}
use Rattle.qm_record.proofs.There.{made_there, then_there}
use Rattle.qm_record.proofs.entry_request.read_set_entry.Goals as goal

pub returns-in-Err : goal.returns-in-Err
unfolding set_entry_at
returns-in-Err c = then_there _ c.in_ok-entry.ensures.value (made_there (λ x. body.Ask (ask.SetEntry c.in_ok-entry.entry x)) (rw c.in-Err.is at c.in_ok-change.ensures))
