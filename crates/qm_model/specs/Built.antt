-- What can be asked of this queue manager so far. DCL Dictionary, DEFINE/FORM, DELETE/FORM, DEFINE/CHARACTERISTIC,
-- DELETE/CHARACTERISTIC, INITIALIZE/QUEUE, SET QUEUE, START/QUEUE, STOP/QUEUE, DELETE/QUEUE, ASSIGN/MERGE, SUBMIT, PRINT,
-- SET ENTRY, DELETE/ENTRY and SHOW ENTRY; OpenVMS System Services Reference Manual, $SNDJBC, on checkpoints and the end of a run.
-- This site's own: LINE and FILL add lines to a file, DROP takes it away, and TICK looks at the clock.
use Rattle.std.specs.Prelude.{ℕ, nat_le, length, List, Bool, true, false, not, ◌&&◌}
use Rattle.std.specs.Char.{is_ascii_digit}
use Rattle.std.specs.List.{list_all}
use Rattle.std.specs.Option.{option_map_or}
use Rattle.qm_kinds.specs.declared.name.TheConstants.{SHORT_NAME_BYTES}
use Rattle.qm_kinds.specs.declared.request.Request.{Request}
use Rattle.qm_kinds.specs.declared.request.Request.TheVariants.{Append, Fill, Drop, DefineForm, DeleteForm, DefineCharacteristic, DeleteCharacteristic, InitializeQueue, SetQueue, StartQueue, StopQueue, AbortJob, DeleteQueue, Merge, Submit, SetEntry, DeleteEntry, Mark, Done, Tick}

-- a name that a queue, a device and a stock can have
abbrev pub is_short : List ℕ → Bool
is_short name = nat_le (length name) SHORT_NAME_BYTES

-- a name that a form or a characteristic can have: short, and not of digits alone
abbrev pub is_definable : List ℕ → Bool
is_definable name = is_short name && not (list_all is_ascii_digit name)

-- The requests that are built: files get bytes and lines and are dropped; forms and characteristics are defined and deleted;
-- queues are made, set, started, stopped and deleted; jobs are submitted, changed, moved to another queue, cut short and
-- deleted; runs report checkpoints and end; and the clock is looked at. What is new has a name that it can have, and so have its device and its stock.
abbrev pub is_built : Request → Bool
is_built (Append file bytes) = true
is_built (Fill file lines) = true
is_built (Drop file) = true
is_built (DefineForm form) = is_definable form.name && is_short form.stock
is_built (DeleteForm name) = true
is_built (DefineCharacteristic characteristic) = is_definable characteristic.name
is_built (DeleteCharacteristic name) = true
is_built (InitializeQueue new) = is_short new.name && option_map_or is_short new.device true
is_built (SetQueue name change) = true
is_built (StartQueue name change) = true
is_built (StopQueue name how) = true
is_built (AbortJob queue entry requeue) = true
is_built (DeleteQueue name) = true
is_built (Merge to from) = true
is_built (Submit job) = true
is_built (SetEntry entry change) = true
is_built (DeleteEntry entry) = true
is_built (Mark run value) = true
is_built (Done run status) = true
is_built Tick = true
is_built _ = false

-- the requests whose records are spelled: those that are built, whatever they name
abbrev pub has_record : Request → Bool
has_record (Append file bytes) = true
has_record (Fill file lines) = true
has_record (Drop file) = true
has_record (DefineForm form) = true
has_record (DeleteForm name) = true
has_record (DefineCharacteristic characteristic) = true
has_record (DeleteCharacteristic name) = true
has_record (InitializeQueue new) = true
has_record (SetQueue name change) = true
has_record (StartQueue name change) = true
has_record (StopQueue name how) = true
has_record (AbortJob queue entry requeue) = true
has_record (DeleteQueue name) = true
has_record (Merge to from) = true
has_record (Submit job) = true
has_record (SetEntry entry change) = true
has_record (DeleteEntry entry) = true
has_record (Mark run value) = true
has_record (Done run status) = true
has_record Tick = true
has_record _ = false
