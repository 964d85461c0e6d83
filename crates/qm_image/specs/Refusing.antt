-- How a call answers where the model may refuse.
use Rattle.std.specs.Prelude.{◌≡◌, IsOk, Option, None, Some, Result, Ok, Err}
use Rattle.qm_kinds.specs.declared.refusal.Refusal.{Refusal}
use Rattle.qm_image.specs.declared.refused.Refused.{Refused}
use Rattle.qm_image.specs.declared.refused.Refused.TheVariants.{By, NoMemory}

-- A refusal is the model's, and it comes before memory is asked for.
abbrev pub Refuses : {X Y : Type 0} → Result X Refused → Result Y Refusal → Type 0
Refuses (Ok x) model = IsOk model
Refuses (Err (By r)) model = model ≡ Err r
Refuses (Err NoMemory) model = IsOk model

-- the same, where it is known what refuses
abbrev pub Decides : {X : Type 0} → Option Refusal → Result X Refused → Type 0
Decides refusal (Ok x) = refusal ≡ None
Decides refusal (Err (By r)) = refusal ≡ Some r
Decides refusal (Err NoMemory) = refusal ≡ None

-- A refusal leaves the image as it was, down to the memory that it holds.
abbrev pub KeepsRefused : {I X : Type 0} → I → I → Result X Refused → Type 0
KeepsRefused old new (Ok x) = Unit {0}
KeepsRefused old new (Err (By r)) = new ≡ old
KeepsRefused old new (Err NoMemory) = Unit {0}
