-- The requests that are built are lawful.
use Rattle.std.proofs.Common.{◌≡◌, ℕ, ◌<◌, Bool, true, false, not, List, length, Option, None, Some, refl, leb-true, IfSome}
use Rattle.std.specs.Char.{is_ascii_digit}
use Rattle.std.specs.List.{list_all}
use Rattle.std.specs.Option.{option_map_or}
use Rattle.qm_kinds.specs.declared.name.TheConstants.{SHORT_NAME_BYTES}
use Rattle.qm_model.specs.Common.{Request, System, is_built, is_short, is_definable, IsLawful}
use Rattle.qm_kinds.specs.declared.request.Request.TheVariants.{Append, Fill, Drop, DefineForm, DeleteForm, DefineCharacteristic, DeleteCharacteristic, InitializeQueue, SetQueue, StartQueue, StopQueue, AbortJob, DeleteQueue, Merge, Submit, SetEntry, DeleteEntry, Mark, Done, Tick}
use Rattle.qm_model.specs.Consistent.{IsShort, IsDefinable}
use Rattle.qm_model.proofs.SettlingLemmas.{and_left, and_right}

short : (name : List ℕ) → is_short name ≡ true → IsShort name
short name h = leb-true (length name) SHORT_NAME_BYTES h

short_if_given : (name : Option (List ℕ)) → option_map_or is_short name true ≡ true → IfSome name IsShort
short_if_given None h = tt
short_if_given (Some name) h = short name h

is_not : (b : Bool) → not b ≡ true → b ≡ false
is_not true h = absurd cc
is_not false h = refl

definable : (name : List ℕ) → is_definable name ≡ true → IsDefinable name
definable name h = (short name (and_left _ _ h), is_not (list_all is_ascii_digit name) (and_right _ _ h))

-- the requests that are built are lawful
pub built_lawful : (s : System) (node : ℕ) (request : Request) → node < length s.nodes → is_built request ≡ true → IsLawful s node request
built_lawful s node (Append file bytes) there built = tt
built_lawful s node (Fill file lines) there built = tt
built_lawful s node (Drop file) there built = tt
built_lawful s node (DefineForm form) there built = (definable form.name (and_left _ _ built), short form.stock (and_right _ _ built))
built_lawful s node (DeleteForm name) there built = tt
built_lawful s node (DefineCharacteristic characteristic) there built = definable characteristic.name built
built_lawful s node (DeleteCharacteristic name) there built = tt
built_lawful s node (InitializeQueue new) there built = (short new.name (and_left _ _ built), short_if_given new.device (and_right _ _ built), there)
built_lawful s node (SetQueue name change) there built = tt
built_lawful s node (StartQueue name change) there built = tt
built_lawful s node (StopQueue name how) there built = tt
built_lawful s node (AbortJob queue entry requeue) there built = tt
built_lawful s node (DeleteQueue name) there built = tt
built_lawful s node (Merge to from) there built = tt
built_lawful s node (Submit job) there built = tt
built_lawful s node (SetEntry entry change) there built = tt
built_lawful s node (DeleteEntry entry) there built = tt
built_lawful s node (Mark run value) there built = tt
built_lawful s node (Done run status) there built = tt
built_lawful s node Tick there built = tt
built_lawful s node _ there built = cc
