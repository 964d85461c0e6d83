-- What was taken for a request was prepared for it, and what was prepared is handed on.
use Rattle.std.proofs.Common.{◌≡◌, ℕ, List, None, Result, Ok, Err, subst}
use Rattle.qm_model.specs.Common.{Request, refusal_of}
use Rattle.qm_image.specs.declared.image.Image.{Image}
use Rattle.qm_image.specs.declared.prepared.Change.{Change}
use Rattle.qm_image.specs.declared.refused.Refused.{Refused}
use Rattle.qm_image.specs.declared.refused.Refused.TheVariants.{NoMemory}
use Rattle.qm_image.specs.Deciding.{PreparesAt, TakesAt}
use Rattle.qm_image.specs.Image.{system_of}

pub prepared : {E : Type 0} {now : ℕ} {node : List ℕ} {request : Request} {old new : Image} (taken : Result Change E) (change : Change) → refusal_of (system_of old) node request ≡ None
    → taken ≡ Ok change → TakesAt now node request old new taken → PreparesAt now node request old new (Ok change)
prepared {now = now} {node = node} {request = request} {old = old} {new = new} taken change clear is takes =
    let t = subst (TakesAt now node request old new) is takes in
    record { decided = clear; untouched = tt; takes = record { rows = t.rows; ready = t.ready; made = t.made } }

pub no_memory : {E : Type 0} {now : ℕ} {node : List ℕ} {request : Request} {old new : Image} (taken : Result Change E) → refusal_of (system_of old) node request ≡ None
    → TakesAt now node request old new taken → PreparesAt now node request old new (Err NoMemory)
no_memory taken clear takes = record { decided = clear; untouched = tt; takes = record { rows = takes.rows; ready = tt; made = tt } }

pub handed : {now : ℕ} {node : List ℕ} {request same : Request} {old new : Image} {result : Result Change Refused} → request ≡ same → PreparesAt now node request old new result → PreparesAt now node same old new result
handed {now} {node} {request} {same} {old} {new} {result} is prepares = subst (λ (r : Request). PreparesAt now node r old new result) is prepares
