-- What an answer shows of runs can be learned.
use Rattle.qm_history.specs.declared.call.Answer.{Answer}
use Rattle.qm_history.specs.declared.call.Answer.TheVariants as answer
use Rattle.qm_history.specs.ShownDuties.{ShowsDuties}
use Rattle.qm_node.specs.Node.{CanBeHeard}
use Rattle.qm_node.proofs.Learning.{shown_learnable}

pub heard_of : (told : Answer) → ShowsDuties told → CanBeHeard told
heard_of (answer.Duties took moment shown) some = shown_learnable shown some
heard_of (answer.Done took moment reply) some = tt
heard_of (answer.Shown took moment rows) some = tt
heard_of (answer.Refused took refusal) some = tt
heard_of (answer.Full took need cap) some = tt
heard_of (answer.Journal took live) some = tt
heard_of (answer.Fenced held current) some = tt
heard_of (answer.NoManager took name) some = tt
heard_of (answer.Damaged file place) some = tt
heard_of answer.HistoryFull some = tt
heard_of (answer.NoMemory took) some = tt
