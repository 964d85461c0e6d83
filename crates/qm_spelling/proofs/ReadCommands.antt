-- What a command asks for has a spelling, where all that is given can be said.
use Rattle.std.proofs.Common.{◌≡◌, ℕ, Bool, true, false, cond, ◌&&◌, ◌||◌, ◌==◌, not, nat_lt, List, [], length, Option, None, Some, IfSome, is_some, unwrap_or, refl, sym, subst, option_map, option_and_then}
use Rattle.std.specs.List.{list_all}
use Rattle.std.specs.Option.{option_map_or}
use Rattle.qm_model.specs.Common.{JobKind, FileName, Input, Ask, Show, NewQueue, QueueChange, EntryChange, Job, NameOrNumber, DefineForm, DeleteForm, DefineCharacteristic, DeleteCharacteristic, Submit, SetEntry, DeleteEntry, Merge, is_short, is_definable}
use Rattle.qm_kinds.specs.declared.entry.JobKind.TheVariants.{Batch, Print}
use Rattle.qm_commands.specs.declared.table.Command.{Command}
use Rattle.qm_commands.specs.declared.table.Command.TheVariants as command
use Rattle.qm_dcl.specs.declared.lists.Lists.{Lists}
use Rattle.qm_dcl.specs.declared.settings.Definition.{Definition}
use Rattle.qm_dcl.specs.declared.settings.JobSettings.{JobSettings}
use Rattle.qm_dcl.specs.declared.settings.Settings.{Settings}
use Rattle.qm_dcl.specs.declared.settings.Stop.{Stop}
use Rattle.qm_dcl.specs.declared.settings.Stop.TheVariants as stop
use Rattle.qm_dcl.specs.declared.value.Location.{Location}
use Rattle.qm_dcl.specs.Command.{asked}
use Rattle.qm_dcl.specs.Entries.{entry_change_of}
use Rattle.qm_dcl.specs.Forms.{form_named}
use Rattle.qm_dcl.specs.Queues.{change_of, kind_of, new_queue_of, stop_of, queue_request}
use Rattle.qm_dcl.specs.Showing.{all_kinds, entries_query}
use Rattle.qm_dcl.specs.Submitting.{default_queue, default_type, with_type, job_of}
use Rattle.qm_dcl.specs.Values.{are_digits, is_node_name}
use Rattle.qm_sayable.specs.Values.{fits_list, is_form_reference, are_characteristics}
use Rattle.qm_sayable.specs.Queues.{is_generic, is_placed, is_passing_on, is_new_queue, are_queue_settings, sets_queue}
use Rattle.qm_sayable.specs.Jobs.{are_print_settings, is_job, is_timed, sets_entry, are_entry_characteristics, is_entry_change}
use Rattle.qm_sayable.specs.Listings.{are_kinds}
use Rattle.qm_sayable.specs.Commands.{is_command, is_request, are_nodes}
use Rattle.qm_spelling.proofs.ReadLists.{are_targets, AreLists}
use Rattle.qm_spelling.proofs.ReadSayable.{IsShort, IsDefinable, IsForm, AreSayable}
use Rattle.qm_spelling.proofs.ReadTokens.{both_first, both_second}
use Rattle.qm_spelling.proofs.ReadValues.{both, not_false, IsPlace}

abbrev pub HasSpelling : Input → Type 0
HasSpelling input = is_command input ≡ true

-- ---- what four commands need beside

-- SUBMIT has no form, no copies and no flag page
pub record IsBatchJob (job : JobSettings) : Type 0 where
  pub form : job.form ≡ None
  pub copies : job.copies ≡ 1
  pub flag : job.flag ≡ false

-- a generic queue passes its jobs on to some, and stands nowhere
abbrev pub IsPassingOn : Settings → Lists → Type 0
IsPassingOn s lists = IfSome lists.targets (λ names. (nat_lt 0 (length names) ≡ true) × (s.queue_settings.location ≡ None))

-- SET ENTRY sets something; what is released is neither held nor waits; and no list is empty
pub record IsEntryChange (s : Settings) (lists : Lists) : Type 0 where
  pub sets : sets_entry (entry_change_of s.job s.queue lists.characteristics) ≡ true
  pub released : (s.job.release && (s.job.hold || is_timed s.job.after)) ≡ false
  pub some : IfSome lists.characteristics (λ cs. nat_lt 0 (length cs) ≡ true)

abbrev pub IsWhole : Command → Settings → Lists → Type 0
IsWhole command.Submit s lists = IsBatchJob s.job
IsWhole command.InitializeQueue s lists = IsPassingOn s lists
IsWhole command.SetQueue s lists = sets_queue (change_of s.queue_settings lists.characteristics) ≡ true
IsWhole command.SetEntry s lists = IsEntryChange s lists
IsWhole _ s lists = Unit {0}

-- ---- values that may be given or not

if_given : {X : Type 0} (q : X → Bool) (o : Option X) → IfSome o (λ x. q x ≡ true) → option_map_or q o true ≡ true
if_given q None is = refl
if_given q (Some x) is = is

or_default : (q : List ℕ → Bool) (default : List ℕ) (o : Option (List ℕ)) → q default ≡ true → IfSome o (λ x. q x ≡ true) → q (unwrap_or o default) ≡ true
or_default q default None is given = is
or_default q default (Some x) is given = given

-- ---- listings

kinds_are : (batch device generic : Bool) → are_kinds (cond (batch || device || generic) (record { batch = batch; print = device; generic_batch = generic; generic_print = generic }) all_kinds) ≡ true
kinds_are true true true = refl
kinds_are true true false = refl
kinds_are true false true = refl
kinds_are true false false = refl
kinds_are false true true = refl
kinds_are false true false = refl
kinds_are false false true = refl
kinds_are false false false = refl

entries_are : (user : List ℕ) (pattern : Option (List ℕ)) (number : Option ℕ) → IfSome pattern (λ p. are_digits p ≡ false) → HasSpelling (Show (entries_query user pattern number))
entries_are user None None is = refl
entries_are user (Some p) None is = not_false (are_digits p) is
entries_are user pattern (Some number) is = refl

no_number : (pattern : Option (List ℕ)) → IfSome pattern (λ p. true ≡ true → are_digits p ≡ false) → IfSome pattern (λ p. are_digits p ≡ false)
no_number None is = tt
no_number (Some p) is = is refl

-- ---- commands

some_stop : (name : List ℕ) (how : Option Stop) (entry : Option ℕ) → is_short name ≡ true → is_request (stop_of name how entry) ≡ true
some_stop name None None is = is
some_stop name None (Some entry) is = is
some_stop name (Some stop.Next) entry is = is
some_stop name (Some stop.Reset) entry is = is
some_stop name (Some stop.Abort) entry is = is
some_stop name (Some stop.Requeue) entry is = is

some_merge : (to : List ℕ) (from : Option (List ℕ)) → is_short to ≡ true → IsShort from → IfSome (option_map Ask (option_map (Merge to) from)) HasSpelling
some_merge to None is short = tt
some_merge to (Some from) is short = both (is_short to) (is_short from) is short

some_form : (d : Definition) (name : Option (List ℕ)) (number : Option ℕ) → IsDefinable name → IsShort d.stock
    → IfSome (option_map Ask (option_map DefineForm (option_and_then (λ n. option_map (form_named d n) number) name))) HasSpelling
some_form d None number is short = tt
some_form d (Some name) None is short = tt
some_form d (Some name) (Some number) is short = both (is_definable name) (is_short (unwrap_or d.stock name)) is (or_default is_short name d.stock (both_first (is_short name) _ is) short)

some_characteristic : (name : Option (List ℕ)) (number : Option ℕ) → IsDefinable name
    → IfSome (option_map Ask (option_map DefineCharacteristic (option_and_then (λ n. option_map (λ m. record { name = n; number = m }) number) name))) HasSpelling
some_characteristic None number is = tt
some_characteristic (Some name) None is = tt
some_characteristic (Some name) (Some number) is = is

some_form_name : (name : Option (List ℕ)) → IsDefinable name → IfSome (option_map Ask (option_map DeleteForm name)) HasSpelling
some_form_name None is = tt
some_form_name (Some name) is = is

some_characteristic_name : (name : Option (List ℕ)) → IsDefinable name → IfSome (option_map Ask (option_map DeleteCharacteristic name)) HasSpelling
some_characteristic_name None is = tt
some_characteristic_name (Some name) is = is

some_entry : (number : Option ℕ) → IfSome (option_map Ask (option_map DeleteEntry number)) HasSpelling
some_entry None = tt
some_entry (Some number) = refl

-- ---- where a queue stands, or to which it passes its jobs on

abbrev made : List ℕ → Bool → Option Location → Option (List (List ℕ)) → QueueChange → Bool → NewQueue
made name batch location targets change start = record {
  name = name;
  kind = kind_of batch (is_some targets);
  node = option_map (λ (l : Location). l.node) location;
  device = option_and_then (λ (l : Location). l.device) location;
  targets = unwrap_or targets [];
  change = change;
  start = start;
}

abbrev Stands : NewQueue → Type 0
Stands new = cond (is_generic new.kind) (is_passing_on new) (is_placed new) ≡ true

placed : (l : Location) → IsPlace l → (is_node_name l.node && option_map_or is_short l.device true && true) ≡ true
placed l is =
    both (is_node_name l.node && option_map_or is_short l.device true) true
    (both (is_node_name l.node) (option_map_or is_short l.device true) is.0 (if_given is_short l.device is.1)) refl

passes_on : (names : List (List ℕ)) → are_targets names ≡ true → nat_lt 0 (length names) ≡ true
    → (nat_lt 0 (length names) && fits_list (length names) && list_all is_short names && true && true) ≡ true
passes_on names are some =
    let first : Bool = nat_lt 0 (length names) in
    let second : Bool = fits_list (length names) in
    let third : Bool = list_all is_short names in
    both (first && second && third && true) true
    (both (first && second && third) true (both (first && second) third (both first second some (both_first second third are)) (both_second second third are)) refl) refl

stands : (name : List ℕ) (batch : Bool) (location : Option Location) (targets : Option (List (List ℕ))) (change : QueueChange) (start : Bool)
    → IfSome location IsPlace → IfSome targets (λ names. are_targets names ≡ true) → IfSome targets (λ names. (nat_lt 0 (length names) ≡ true) × (location ≡ None))
    → Stands (made name batch location targets change start)
stands name true None None change start place are some = refl
stands name false None None change start place are some = refl
stands name true (Some l) None change start place are some = placed l place
stands name false (Some l) None change start place are some = placed l place
stands name true location (Some names) change start place are some =
    subst (λ (l : Option Location). Stands (made name true l (Some names) change start)) (sym some.1) (passes_on names are some.0)
stands name false location (Some names) change start place are some =
    subst (λ (l : Option Location). Stands (made name false l (Some names) change start)) (sym some.1) (passes_on names are some.0)

module _ (user : List ℕ) (s : Settings) (lists : Lists) (nodes : Option (List (List ℕ))) (are : AreLists lists nodes) where
  settings_are : IsForm s.queue_settings.form → are_queue_settings (change_of s.queue_settings lists.characteristics) ≡ true
  settings_are form =
      both (option_map_or are_characteristics lists.characteristics true) (option_map_or is_form_reference s.queue_settings.form true)
      (if_given are_characteristics lists.characteristics are.characteristics) (if_given is_form_reference s.queue_settings.form form)

  -- ---- jobs

  characteristics_are : (given : Option (List NameOrNumber)) → IfSome given (λ cs. are_characteristics cs ≡ true) → are_characteristics (unwrap_or given []) ≡ true
  characteristics_are None is = refl
  characteristics_are (Some cs) is = is

  has_type : (file : FileName) (type : List ℕ) (extension : Option (List ℕ)) → file.extension ≡ extension → is_some (with_type file type extension).extension ≡ true
  has_type file type None is = refl
  has_type file type (Some e) is = subst (λ (o : Option (List ℕ)). is_some o ≡ true) (sym is) refl

  default_short : (kind : JobKind) → is_short (default_queue kind) ≡ true
  default_short Batch = refl
  default_short Print = refl

  some_job : (kind : JobKind) (file : FileName) → IsShort s.queue → are_print_settings kind (job_of user kind file s lists) ≡ true → is_job (job_of user kind file s lists) ≡ true
  some_job kind file queue print =
      let job : Job = job_of user kind file s lists in
      both (is_short job.queue && is_some job.file.extension && are_characteristics job.characteristics) (are_print_settings kind job)
      (both (is_short job.queue && is_some job.file.extension) (are_characteristics job.characteristics)
      (both (is_short job.queue) (is_some job.file.extension) (or_default is_short (default_queue kind) s.queue (default_short kind) queue) (has_type file (default_type kind) file.extension refl))
      (characteristics_are lists.characteristics are.characteristics))
      print

  no_print : (form : Option NameOrNumber) (copies : ℕ) (flag : Bool) → form ≡ None → copies ≡ 1 → flag ≡ false → (not (is_some form) && copies == 1 && not flag) ≡ true
  no_print form copies flag f c n = rw (f, c, n) refl

  some_batch : (file : Option FileName) → IsShort s.queue → IsBatchJob s.job → IfSome (option_map Ask (option_map (λ f. Submit (job_of user Batch f s lists)) file)) HasSpelling
  some_batch None queue batch = tt
  some_batch (Some file) queue batch = some_job Batch file queue (no_print s.job.form s.job.copies s.job.flag batch.form batch.copies batch.flag)

  some_print : (file : Option FileName) → IsShort s.queue → IsForm s.job.form → IfSome (option_map Ask (option_map (λ f. Submit (job_of user Print f s lists)) file)) HasSpelling
  some_print None queue form = tt
  some_print (Some file) queue form = some_job Print file queue (if_given is_form_reference s.job.form form)

  -- ---- entries

  entry_characteristics : (given : Option (List NameOrNumber)) → IfSome given (λ cs. are_characteristics cs ≡ true) → IfSome given (λ cs. nat_lt 0 (length cs) ≡ true)
      → option_map_or are_entry_characteristics given true ≡ true
  entry_characteristics None is some = refl
  entry_characteristics (Some cs) is some = both (nat_lt 0 (length cs)) (are_characteristics cs) some is

  some_change : IsForm s.job.form → IsShort s.queue → IsEntryChange s lists → is_entry_change (entry_change_of s.job s.queue lists.characteristics) ≡ true
  some_change form queue change =
      let to : EntryChange = entry_change_of s.job s.queue lists.characteristics in
      let first : Bool = sets_entry to in
      let second : Bool = not (to.release && (to.hold || is_timed to.after)) in
      let third : Bool = option_map_or are_entry_characteristics to.characteristics true in
      let fourth : Bool = option_map_or is_form_reference to.form true in
      both (first && second && third && fourth) (option_map_or is_short to.queue true)
      (both (first && second && third) fourth
      (both (first && second) third
      (both first second change.sets (not_false (to.release && (to.hold || is_timed to.after)) change.released))
      (entry_characteristics lists.characteristics are.characteristics change.some))
      (if_given is_form_reference s.job.form form))
      (if_given is_short s.queue queue)

  some_changed : (number : Option ℕ) → IsForm s.job.form → IsShort s.queue → IsEntryChange s lists
      → IfSome (option_map Ask (option_map (λ n. SetEntry n (entry_change_of s.job s.queue lists.characteristics)) number)) HasSpelling
  some_changed None form queue change = tt
  some_changed (Some number) form queue change = some_change form queue change

  -- ---- queues

  some_new : (name : List ℕ) → is_short name ≡ true → IfSome s.queue_settings.location IsPlace → IsForm s.queue_settings.form → IsPassingOn s lists
      → is_new_queue (new_queue_of name s.queue_settings lists) ≡ true
  some_new name is place form passing =
      let new : NewQueue = new_queue_of name s.queue_settings lists in
      both (is_short name && cond (is_generic new.kind) (is_passing_on new) (is_placed new)) (are_queue_settings new.change)
      (both (is_short name) (cond (is_generic new.kind) (is_passing_on new) (is_placed new)) is
      (stands name s.queue_settings.batch s.queue_settings.location lists.targets new.change s.queue_settings.start place are.targets passing))
      (settings_are form)

  of_queue : (c : Command) (name : List ℕ) → is_short name ≡ true → AreSayable c s → IsWhole c s lists → IfSome (option_map Ask (queue_request name c s lists)) HasSpelling
  of_queue command.InitializeQueue name is says whole = some_new name is says.2 says.6 whole
  of_queue command.SetQueue name is says whole =
      let change : QueueChange = change_of s.queue_settings lists.characteristics in
      both (is_short name && sets_queue change) (are_queue_settings change) (both (is_short name) (sets_queue change) is whole) (settings_are says.6)
  of_queue command.StartQueue name is says whole = both (is_short name) (are_queue_settings (change_of s.queue_settings lists.characteristics)) is (settings_are says.6)
  of_queue command.StopQueue name is says whole = some_stop name s.stop s.entry is
  of_queue command.DeleteQueue name is says whole = is
  of_queue command.AssignMerge name is says whole = some_merge name s.source is says.1
  of_queue _ name is says whole = tt

  of_some_queue : (c : Command) (queue : Option (List ℕ)) → IsShort queue → AreSayable c s → IsWhole c s lists → IfSome (option_map Ask (option_and_then (λ name. queue_request name c s lists) queue)) HasSpelling
  of_some_queue c None is says whole = tt
  of_some_queue c (Some name) is says whole = of_queue c name is says whole

  pub of_command : (c : Command) → AreSayable c s → IsWhole c s lists → IfSome (asked user c s lists nodes) HasSpelling
  of_command command.ShowQueue says whole = kinds_are s.listing.batch s.listing.device s.listing.generic
  of_command command.ShowEntry says whole = entries_are user s.listing.pattern s.entry (no_number s.listing.pattern says.7)
  of_command command.ShowForms says whole = refl
  of_command command.ShowCharacteristics says whole = refl
  of_command command.ShowManagers says whole = refl
  of_command command.StartManager says whole = if_given are_nodes nodes are.all_nodes
  of_command command.Submit says whole = some_batch s.file says.0 whole
  of_command command.Print says whole = some_print s.file says.0 says.5
  of_command command.SetEntry says whole = some_changed s.entry says.5 says.0 whole
  of_command command.DeleteEntry says whole = some_entry s.entry
  of_command command.DefineForm says whole = some_form s.definition s.definition.name s.definition.form_number says.3 says.4
  of_command command.DefineCharacteristic says whole = some_characteristic s.definition.name s.definition.characteristic_number says.3
  of_command command.DeleteForm says whole = some_form_name s.definition.name says.3
  of_command command.DeleteCharacteristic says whole = some_characteristic_name s.definition.name says.3
  of_command c says whole = of_some_queue c s.queue says.0 says whole
