-- What a call owes that decides on a request, and takes the memory for its change.
use Rattle.std.specs.Prelude.{◌≡◌, ℕ, List, IfOk, Result}
use Rattle.qm_model.specs.Common.{Request, System, change_of, refusal_of}
use Rattle.qm_image.specs.declared.image.Image.{Image}
use Rattle.qm_image.specs.declared.prepared.Change.{Change}
use Rattle.qm_image.specs.declared.refused.Refused.{Refused}
use Rattle.qm_image.specs.Image.{system_of}
use Rattle.qm_image.specs.Preparing.{found, outcome_of, IsReady}
use Rattle.qm_image.specs.Refusing.{Decides, KeepsRefused}

-- the change does to the system what the request does at this moment, for this node
abbrev pub Makes : ℕ → List ℕ → Request → System → Change → Type 0
Makes now node request s change = outcome_of change now node s ≡ change_of s now node request

-- No row is changed where memory is taken for a request, and with it the change that it asks for can be made.
pub record TakesAt {E : Type 0} (now : ℕ) (node : List ℕ) (request : Request) (old new : Image) (result : Result Change E) : Type 0 where
  pub rows : system_of new ≡ system_of old
  pub ready : IfOk result (IsReady new)
  pub made : IfOk result (Makes now node request (found now (system_of old)))

-- the same at each moment, for each node
abbrev pub Takes : {E : Type 0} → Request → Image → Image → Result Change E → Type 0
Takes request old new result = (now : ℕ) (node : List ℕ) → TakesAt now node request old new result

-- A request is refused where the model refuses it, and then the image is as it was; else memory is taken for it.
pub record PreparesAt (now : ℕ) (node : List ℕ) (request : Request) (old new : Image) (result : Result Change Refused) : Type 0 where
  pub decided : Decides (refusal_of (system_of old) node request) result
  pub untouched : KeepsRefused old new result
  pub takes : TakesAt now node request old new result

-- the same at each moment, for each node
abbrev pub Prepares : Request → Image → Image → Result Change Refused → Type 0
Prepares request old new result = (now : ℕ) (node : List ℕ) → PreparesAt now node request old new result
