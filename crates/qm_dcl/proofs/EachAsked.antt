-- What holds of each form of a command that is built holds of all that texts ask for.
use Rattle.std.proofs.Common.{◌≡◌, lit<, ℕ, Bool, true, false, cond, ◌&&◌, nat_lt, List, [], Option, None, Some, Result, Ok, Err, IfOk, IfSome, refl, option_map, option_and_then, ok_or, unwrap_or}
use Rattle.std.specs.Option.{option_map_or}
use Rattle.qm_model.specs.Common.{JobKind, FileName, Form, Characteristic, Input, Query, Ask, Show, TakeManager, NewQueue, QueueChange, EntryChange, Job, DefineForm, DeleteForm, DefineCharacteristic, DeleteCharacteristic, InitializeQueue, SetQueue, StartQueue, StopQueue, AbortJob, DeleteQueue, Merge, Submit, SetEntry, DeleteEntry, StopMode}
use Rattle.qm_kinds.specs.declared.entry.JobKind.TheVariants.{Batch, Print}
use Rattle.qm_kinds.specs.declared.request.StopMode.TheVariants as mode
use Rattle.qm_commands.specs.declared.fault.Fault.{Fault}
use Rattle.qm_commands.specs.declared.table.Command.{Command}
use Rattle.qm_commands.specs.declared.table.Command.TheVariants as command
use Rattle.qm_grammar.specs.Finding.{named_command}
use Rattle.qm_grammar.specs.Parsed.{tokens_in, parts_in, command_in}
use Rattle.qm_model.specs.Built.{is_short, is_built as is_built_request}
use Rattle.qm_dcl.specs.declared.lists.Lists.{Lists}
use Rattle.qm_dcl.specs.declared.settings.Settings.{Settings}
use Rattle.qm_dcl.specs.declared.settings.Definition.{Definition}
use Rattle.qm_dcl.specs.declared.settings.Stop.{Stop}
use Rattle.qm_dcl.specs.declared.settings.Stop.TheVariants as stop
use Rattle.qm_dcl.specs.declared.value.Location.{Location}
use Rattle.qm_dcl.specs.Forms.{form_named}
use Rattle.qm_dcl.specs.Settings.{settings_of}
use Rattle.qm_dcl.specs.Lists.{lists_of, nodes_of}
use Rattle.qm_dcl.specs.Submitting.{job_of}
use Rattle.qm_dcl.specs.Entries.{entry_change_of}
use Rattle.qm_dcl.specs.Showing.{characteristics_query, entries_query, forms_query, manager_query, queues_query}
use Rattle.qm_dcl.specs.Queues.{change_of, new_queue_of, stop_of, queue_request}
use Rattle.qm_dcl.specs.Command.{asked, not_built, judged, asked_with, meant, unnamed, command_named, command_of}
use Rattle.qm_dcl.proofs.FewValues.{HasFew, AreShort, lists_are_short}
use Rattle.qm_dcl.proofs.ShortNames.{IsShort, IsDefinable, HasShortDevice, AreFit, settings_are_fit}

later_or_first : (earlier : Bool) (value f : Fault) → IfOk (cond earlier (Err value) (Err f)) AreFit
later_or_first true value f = tt
later_or_first false value f = tt

judged_fit : (found : Result Command Fault) (given : Result Settings Fault) → IfOk given AreFit → IfOk (judged found given) AreFit
judged_fit (Ok c) given fit = fit
judged_fit (Err f) (Ok s) fit = tt
judged_fit (Err f) (Err value) fit = later_or_first (nat_lt value.place f.place) value f

both : (a b : Bool) → a ≡ true → b ≡ true → (a && b) ≡ true
both true b left right = right
both false b left right = left

first_of_both : (a b : Bool) → (a && b) ≡ true → a ≡ true
first_of_both true b h = refl
first_of_both false b h = h

-- no list that is given has more values than its count can say
abbrev pub HasFewIfGiven : {X : Type 0} → Option (List X) → Type 0
HasFewIfGiven given = IfSome given HasFew

or_empty : {X : Type 0} (given : Option (List X)) → HasFewIfGiven given → HasFew (unwrap_or given [])
or_empty None few = lit< tt
or_empty (Some xs) few = few

-- it holds of each form that is built
pub record OfEach (P : Input → Type 0) : Type 0 where
  pub shows : (query : Query) → P (Show query)
  pub takes_manager : (on : Option (List (List ℕ))) → P (TakeManager on)
  pub submits : (job : Job) → HasFew job.characteristics → P (Ask (Submit job))
  pub sets_entry : (number : ℕ) (change : EntryChange) → HasFewIfGiven change.characteristics → P (Ask (SetEntry number change))
  pub deletes_entry : (number : ℕ) → P (Ask (DeleteEntry number))
  pub defines_form : (form : Form) → is_built_request (DefineForm form) ≡ true → P (Ask (DefineForm form))
  pub deletes_form : (name : List ℕ) → P (Ask (DeleteForm name))
  pub defines_characteristic : (c : Characteristic) → is_built_request (DefineCharacteristic c) ≡ true → P (Ask (DefineCharacteristic c))
  pub deletes_characteristic : (name : List ℕ) → P (Ask (DeleteCharacteristic name))
  pub initializes : (new : NewQueue) → is_built_request (InitializeQueue new) ≡ true → HasFew new.targets → HasFewIfGiven new.change.characteristics
      → P (Ask (InitializeQueue new))
  pub sets : (name : List ℕ) (change : QueueChange) → HasFewIfGiven change.characteristics → P (Ask (SetQueue name change))
  pub starts : (name : List ℕ) (change : QueueChange) → HasFewIfGiven change.characteristics → P (Ask (StartQueue name change))
  pub stops : (name : List ℕ) (how : StopMode) → P (Ask (StopQueue name how))
  pub aborts : (name : List ℕ) (entry : Option ℕ) (requeue : Bool) → P (Ask (AbortJob name entry requeue))
  pub deletes_queue : (name : List ℕ) → P (Ask (DeleteQueue name))
  pub merges : (to from : List ℕ) → P (Ask (Merge to from))

-- ---- what is new has a name that it can have

own_or_stock : (name : List ℕ) (stock : Option (List ℕ)) → IsDefinable name → IfSome stock IsShort → is_short (unwrap_or stock name) ≡ true
own_or_stock name None is short = first_of_both _ _ is
own_or_stock name (Some stock) is short = short

form_built : (d : Definition) (name : List ℕ) (number : ℕ) → IsDefinable name → IfSome d.stock IsShort → is_built_request (DefineForm (form_named d name number)) ≡ true
form_built d name number is short = both _ _ is (own_or_stock name d.stock is short)

device_short : (device : Option (List ℕ)) → IfSome device IsShort → option_map_or is_short device true ≡ true
device_short None short = refl
device_short (Some name) short = short

device_built : (location : Option Location) → IfSome location HasShortDevice → option_map_or is_short (option_and_then (λ (l : Location). l.device) location) true ≡ true
device_built None short = refl
device_built (Some location) short = device_short location.device short

new_built : (name : List ℕ) (s : Settings) (lists : Lists) → IsShort name → AreFit s → is_built_request (InitializeQueue (new_queue_of name s.queue_settings lists)) ≡ true
new_built name s lists short fit = both _ _ short (device_built s.queue_settings.location fit.1)

-- ---- command by command

module _ {P : Input → Type 0} (each : OfEach P) (user : List ℕ) where
  of_stop : (name : List ℕ) (how : Option Stop) (entry : Option ℕ) → P (Ask (stop_of name how entry))
  of_stop name None None = each.stops name mode.Pause
  of_stop name None (Some entry) = each.aborts name (Some entry) false
  of_stop name (Some stop.Next) entry = each.stops name mode.Next
  of_stop name (Some stop.Reset) entry = each.stops name mode.Reset
  of_stop name (Some stop.Abort) entry = each.aborts name entry false
  of_stop name (Some stop.Requeue) entry = each.aborts name entry true

  of_merge : (to : List ℕ) (from : Option (List ℕ)) → IfSome (option_map Ask (option_map (Merge to) from)) P
  of_merge to None = tt
  of_merge to (Some from) = each.merges to from

  of_form : (d : Definition) (name : Option (List ℕ)) (number : Option ℕ) → IfSome name IsDefinable → IfSome d.stock IsShort
      → IfSome (option_map Ask (option_map DefineForm (option_and_then (λ n. option_map (form_named d n) number) name))) P
  of_form d None number is short = tt
  of_form d (Some name) None is short = tt
  of_form d (Some name) (Some number) is short = each.defines_form (form_named d name number) (form_built d name number is short)

  of_characteristic : (name : Option (List ℕ)) (number : Option ℕ) → IfSome name IsDefinable
      → IfSome (option_map Ask (option_map DefineCharacteristic (option_and_then (λ n. option_map (λ m. record { name = n; number = m }) number) name))) P
  of_characteristic None number is = tt
  of_characteristic (Some name) None is = tt
  of_characteristic (Some name) (Some number) is = each.defines_characteristic (record { name = name; number = number }) is

  of_form_name : (name : Option (List ℕ)) → IfSome (option_map Ask (option_map DeleteForm name)) P
  of_form_name None = tt
  of_form_name (Some name) = each.deletes_form name

  of_characteristic_name : (name : Option (List ℕ)) → IfSome (option_map Ask (option_map DeleteCharacteristic name)) P
  of_characteristic_name None = tt
  of_characteristic_name (Some name) = each.deletes_characteristic name

  of_entry : (number : Option ℕ) → IfSome (option_map Ask (option_map DeleteEntry number)) P
  of_entry None = tt
  of_entry (Some number) = each.deletes_entry number

  module _ (s : Settings) (lists : Lists) (fit : AreFit s) (short : AreShort lists) where
    of_file : (kind : JobKind) (file : Option FileName) → IfSome (option_map Ask (option_map (λ f. Submit (job_of user kind f s lists)) file)) P
    of_file kind None = tt
    of_file kind (Some file) = each.submits (job_of user kind file s lists) (or_empty lists.characteristics short.0)

    of_changed : (number : Option ℕ) → IfSome (option_map Ask (option_map (λ n. SetEntry n (entry_change_of s.job s.queue lists.characteristics)) number)) P
    of_changed None = tt
    of_changed (Some number) = each.sets_entry number (entry_change_of s.job s.queue lists.characteristics) short.0

    of_request : (c : Command) (name : List ℕ) → IsShort name → IfSome (option_map Ask (queue_request name c s lists)) P
    of_request command.InitializeQueue name is =
        each.initializes (new_queue_of name s.queue_settings lists) (new_built name s lists is fit) (or_empty lists.targets short.1) short.0
    of_request command.SetQueue name is = each.sets name (change_of s.queue_settings lists.characteristics) short.0
    of_request command.StartQueue name is = each.starts name (change_of s.queue_settings lists.characteristics) short.0
    of_request command.StopQueue name is = of_stop name s.stop s.entry
    of_request command.DeleteQueue name is = each.deletes_queue name
    of_request command.AssignMerge name is = of_merge name s.source
    of_request _ name is = tt

    of_queue : (c : Command) (queue : Option (List ℕ)) → IfSome queue IsShort → IfSome (option_map Ask (option_and_then (λ name. queue_request name c s lists) queue)) P
    of_queue c None is = tt
    of_queue c (Some name) is = of_request c name is

    of_command : (c : Command) (nodes : Option (List (List ℕ))) → IfSome (asked user c s lists nodes) P
    of_command command.ShowQueue nodes = each.shows (queues_query user s.listing)
    of_command command.ShowEntry nodes = each.shows (entries_query user s.listing.pattern s.entry)
    of_command command.ShowForms nodes = each.shows (forms_query s.listing.pattern)
    of_command command.ShowCharacteristics nodes = each.shows (characteristics_query s.listing.pattern)
    of_command command.ShowManagers nodes = each.shows manager_query
    of_command command.StartManager nodes = each.takes_manager nodes
    of_command command.Submit nodes = of_file Batch s.file
    of_command command.Print nodes = of_file Print s.file
    of_command command.SetEntry nodes = of_changed s.entry
    of_command command.DeleteEntry nodes = of_entry s.entry
    of_command command.DefineForm nodes = of_form s.definition s.definition.name s.definition.form_number fit.2 fit.3
    of_command command.DefineCharacteristic nodes = of_characteristic s.definition.name s.definition.characteristic_number fit.2
    of_command command.DeleteForm nodes = of_form_name s.definition.name
    of_command command.DeleteCharacteristic nodes = of_characteristic_name s.definition.name
    of_command c nodes = of_queue c s.queue fit.0

  or_not_built : (o : Option Input) → IfSome o P → IfOk (ok_or o not_built) P
  or_not_built None h = tt
  or_not_built (Some input) h = h

  of_given : (c : Command) (lists : Lists) (nodes : Option (List (List ℕ))) (given : Result Settings Fault) → AreShort lists
      → IfOk given AreFit → IfOk (asked_with user c lists nodes given) P
  of_given c lists nodes (Ok s) short fit = or_not_built (asked user c s lists nodes) (of_command s lists fit short c nodes)
  of_given c lists nodes (Err f) short fit = tt

  of_meant : (now : ℕ) (text : List ℕ) (c : Command) → IfOk (meant user now text c) P
  of_meant now text c =
      of_given c (lists_of text (parts_in text)) (nodes_of text (parts_in text)) (judged (command_in text) (settings_of now text c (parts_in text)))
      (lists_are_short text) (judged_fit (command_in text) (settings_of now text c (parts_in text)) (settings_are_fit now text c (parts_in text)))

  of_unnamed : (read : Result Command Fault) → IfOk (unnamed read) P
  of_unnamed (Ok c) = tt
  of_unnamed (Err f) = tt

  of_named : (now : ℕ) (text : List ℕ) (named : Option Command) → IfOk (command_named user now text named) P
  of_named now text None = of_unnamed (command_in text)
  of_named now text (Some c) = of_meant now text c

  -- it holds of what a text asks for
  pub of_asked : (now : ℕ) (text : List ℕ) → IfOk (command_of user now text) P
  of_asked now text = of_named now text (named_command text (tokens_in text))
