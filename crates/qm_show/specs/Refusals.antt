-- What a refusal tells behind its word.
use Rattle.std.specs.Prelude.{ℕ, List, [], ◌++◌, decimal, codes}
use Rattle.qm_kinds.specs.Words.{queue_state_text, parse_kind_text}
use Rattle.qm_kinds.specs.declared.refusal.Refusal.{Refusal}
use Rattle.qm_kinds.specs.declared.refusal.Refusal.TheVariants.{NoSuchQueue, NoSuchEntry, NoSuchForm, NoSuchCharacteristic, QueueNotStopped, Referenced, StaleRun, GenericTarget, NoSuchNode, ParseFault, EntryBusy, NoMore}
use Rattle.qm_model.specs.Words.{wanted_text, holder_text, no_more_text, status_text}

-- the name, the number or the state that a refusal tells, and of one that tells none nothing
abbrev pub refusal_detail : Refusal → List ℕ
refusal_detail (NoSuchQueue name) = name
refusal_detail (NoSuchEntry number) = decimal number
refusal_detail (NoSuchForm wanted) = wanted_text wanted
refusal_detail (NoSuchCharacteristic wanted) = wanted_text wanted
refusal_detail (QueueNotStopped state) = queue_state_text state
refusal_detail (Referenced by) = holder_text by
refusal_detail (StaleRun next) = decimal next
refusal_detail (GenericTarget name) = name
refusal_detail (NoSuchNode name) = name
refusal_detail (ParseFault place kind) = decimal place ++ codes ": " ++ parse_kind_text kind
refusal_detail (EntryBusy state) = status_text state
refusal_detail (NoMore what) = no_more_text what
refusal_detail other = []
