-- The names that are given are those that a queue, a device, a form, a characteristic and a stock can have.
use Rattle.std.proofs.Common.{◌≡◌, ℕ, Bool, true, false, cond, ◌&&◌, not, ◌==◌, ◌+◌, List, [], ◌∷◌, take, drop, Option, None, Some, Result, Ok, Err, IfOk, IfSome, refl, sym, subst, option_map, option_and_then, position}
use Rattle.qm_model.specs.Common.{name_of, file_name_of, JobRetain, Until, is_short, is_definable}
use Rattle.qm_commands.specs.declared.tokens.token.Token.{Token}
use Rattle.qm_commands.specs.declared.fault.Fault.{Fault}
use Rattle.qm_commands.specs.declared.table.Command.{Command}
use Rattle.qm_commands.specs.declared.table.Command.TheVariants as command
use Rattle.qm_commands.specs.declared.word.Word.{Word}
use Rattle.qm_commands.specs.declared.word.Word.TheVariants as words
use Rattle.qm_grammar.specs.declared.part.Part.{Part}
use Rattle.qm_grammar.specs.declared.part.Part.TheVariants.{Parameter, Qualifier, Value, KeyValue}
use Rattle.qm_dcl.specs.declared.settings.Settings.{Settings}
use Rattle.qm_dcl.specs.declared.settings.QueueSettings.{QueueSettings}
use Rattle.qm_dcl.specs.declared.value.Location.{Location}
use Rattle.qm_dcl.specs.declared.value.Side.{Side}
use Rattle.qm_dcl.specs.Values.{said_by, raised_by, are_digits, byte_said, form_number_said, entry_said, blocks_said, if_passes, short_name_said, definable_name_said, node_said, says_all, form_said, characteristic_said, behind_colon, before_colon, device_said, has_equals, located, location_cut_at, location_said, schedule_said, queue_retain_said, job_retain_said, is_until, side_said, moment_said, pattern_said}
use Rattle.qm_dcl.specs.Forms.{with_margin}
use Rattle.qm_dcl.specs.Given.{queue_marked, with_word, with_job, with_queue_settings, with_definition, with_shape, queue_given, entry_given, pattern_given, blocks_with, valued, nodes_begun, node_given, schedule_given, queue_retain_given, with_retain, until_given, after_given, margin_given, definable_given, form_given, characteristic_given, merge_given, file_given, parametered}
use Rattle.qm_dcl.specs.Settings.{nothing_given, or_value_fault, with_key, with_until, with_retain_word, with_job_retain, is_of_queue, with_value, inner_value, has_value_ahead, lists_nodes, with_part, on_settings, settings_from, settings_of}

abbrev pub IsShort : List ℕ → Type 0
IsShort name = is_short name ≡ true

abbrev pub IsDefinable : List ℕ → Type 0
IsDefinable name = is_definable name ≡ true

abbrev pub HasShortDevice : Location → Type 0
HasShortDevice location = IfSome location.device IsShort

-- the names that are given: of a queue, a device, a form or a characteristic, and a stock
abbrev pub AreFit : Settings → Type 0
AreFit s =
    IfSome s.queue IsShort × IfSome s.queue_settings.location HasShortDevice × IfSome s.definition.name IsDefinable × IfSome s.definition.stock IsShort

-- ---- what names say

passing : (passes : List ℕ → Bool) (name : List ℕ) (b : Bool) → passes name ≡ b → IfSome (cond b (Some name) None) (λ n. passes n ≡ true)
passing passes name true is = is
passing passes name false is = tt

if_passing : (passes : List ℕ → Bool) (name : Option (List ℕ)) → IfSome (option_and_then (if_passes passes) name) (λ n. passes n ≡ true)
if_passing passes None = tt
if_passing passes (Some name) = passing passes name (passes name) refl

short_name : (said : List ℕ) → IfSome (short_name_said said) IsShort
short_name said = if_passing is_short (name_of said)

definable_name : (said : List ℕ) → IfSome (definable_name_said said) IsDefinable
definable_name said = if_passing is_definable (name_of said)

-- ---- where a queue stands

some_short : (name : Option (List ℕ)) → IfSome name IsShort → IfSome (option_map Some name) (λ n. IfSome n IsShort)
some_short None short = tt
some_short (Some name) short = short

named_device : (said : Option (List ℕ)) → IfSome (option_map Some (option_and_then short_name_said said)) (λ device. IfSome device IsShort)
named_device None = tt
named_device (Some said) = some_short (short_name_said said) (short_name said)

short_device : (said : List ℕ) → IfSome (device_said said) (λ device. IfSome device IsShort)
short_device [] = tt
short_device (b ∷ rest) = named_device (before_colon (b ∷ rest))

node_located : (node : Option (List ℕ)) (device : Option (List ℕ)) → IfSome device IsShort
    → IfSome (option_map (λ n. record { node = n; device = device }) node) HasShortDevice
node_located None device short = tt
node_located (Some n) device short = short

device_located : (node : List ℕ) (device : Option (Option (List ℕ))) → IfSome device (λ d. IfSome d IsShort)
    → IfSome (option_and_then (located node) device) HasShortDevice
device_located node None short = tt
device_located node (Some device) short = node_located (node_said node) device short

behind_located : (node : List ℕ) (behind : Option (List ℕ)) → IfSome (option_and_then (located node) (option_and_then device_said behind)) HasShortDevice
behind_located node None = tt
behind_located node (Some said) = device_located node (device_said said) (short_device said)

cut_located : (place : Option ℕ) (said : List ℕ) → IfSome (location_cut_at place said) HasShortDevice
cut_located None said = tt
cut_located (Some place) said = behind_located (take place said) (behind_colon (drop (place + 1) said))

location : (said : List ℕ) → IfSome (location_said said) HasShortDevice
location said = cut_located (position (λ b. b == 58) said) said

-- ---- what is given

-- what is given of something that is fit
giving : {X : Type 0} (Q : X → Type 0) (give : X → Settings) (given : Option X) → IfSome given Q → ((x : X) → Q x → AreFit (give x)) → IfSome (option_map give given) AreFit
giving Q give None is fit = tt
giving Q give (Some x) is fit = fit x is

-- what gives something else
kept : {X : Type 0} (give : X → Settings) (given : Option X) → ((x : X) → AreFit (give x)) → IfSome (option_map give given) AreFit
kept give None fit = tt
kept give (Some x) fit = fit x

-- no qualifier by itself says where a queue stands
marked_location : (queue : QueueSettings) (word : Word) → (queue_marked queue word).location ≡ queue.location
marked_location queue words.Batch = refl
marked_location queue words.Start = refl
marked_location queue words.BlockLimit = refl
marked_location queue words.NoBlockLimit = refl
marked_location queue words.NoRetain = refl
marked_location queue _ = refl

word_fit : (s : Settings) (word : Word) → AreFit s → AreFit (with_word s word)
word_fit s word fit = (fit.0, subst (λ (l : Option Location). IfSome l HasShortDevice) (sym (marked_location s.queue_settings word)) fit.1, fit.2, fit.3)

queue_fit : (s : Settings) (said : List ℕ) → AreFit s → IfSome (queue_given s said) AreFit
queue_fit s said fit = giving IsShort (λ name. record s { queue = Some name }) (short_name_said said) (short_name said) (λ name short. (short, fit.1, fit.2, fit.3))

valued_fit : (s : Settings) (word : Option Word) (said : List ℕ) → AreFit s → IfSome (valued s word said) AreFit
valued_fit s None said fit = tt
valued_fit s (Some words.Queue) said fit = queue_fit s said fit
valued_fit s (Some words.Requeue) said fit = queue_fit s said fit
valued_fit s (Some words.Entry) said fit = kept (λ number. record s { entry = Some number }) (entry_said said) (λ number. fit)
valued_fit s (Some words.Name) said fit = kept (λ name. with_job s (record s.job { name = Some name })) (name_of said) (λ name. fit)
valued_fit s (Some words.Priority) said fit = kept (λ number. with_job s (record s.job { priority = Some number })) (byte_said said) (λ number. fit)
valued_fit s (Some words.Form) said fit = kept (λ form. with_job s (record s.job { form = Some form })) (form_said said) (λ form. fit)
valued_fit s (Some words.Copies) said fit = kept (λ number. with_job s (record s.job { copies = number })) (byte_said said) (λ number. fit)
valued_fit s (Some words.JobLimit) said fit = kept (λ number. with_queue_settings s (record s.queue_settings { limit = Some number })) (byte_said said) (λ number. fit)
valued_fit s (Some words.FormMounted) said fit = kept (λ form. with_queue_settings s (record s.queue_settings { form = Some form })) (form_said said) (λ form. fit)
valued_fit s (Some words.BlockLimit) said fit = kept (λ number. with_queue_settings s (record s.queue_settings { blocks = Some (blocks_with s.queue_settings.blocks number) })) (blocks_said said) (λ number. fit)
valued_fit s (Some words.On) said fit =
    giving HasShortDevice (λ l. with_queue_settings s (record s.queue_settings { location = Some l })) (location_said said) (location said) (λ l short. (fit.0, short, fit.2, fit.3))
valued_fit s (Some words.Stock) said fit =
    giving IsShort (λ name. with_definition s (record s.definition { stock = Some name })) (short_name_said said) (short_name said) (λ name short. (fit.0, fit.1, fit.2, short))
valued_fit s (Some words.Length) said fit = kept (λ number. with_shape s (record s.definition.shape { length = number })) (byte_said said) (λ number. fit)
valued_fit s (Some words.Width) said fit = kept (λ number. with_shape s (record s.definition.shape { width = number })) (byte_said said) (λ number. fit)
valued_fit s (Some words.Characteristics) said fit = kept (λ characteristic. s) (characteristic_said said) (λ characteristic. fit)
valued_fit s (Some words.Generic) said fit = kept (λ name. s) (short_name_said said) (λ name. fit)
valued_fit s (Some _) said fit = tt

definable_fit : (s : Settings) (said : List ℕ) → AreFit s → IfSome (definable_given s said) AreFit
definable_fit s said fit =
    giving IsDefinable (λ name. with_definition s (record s.definition { name = Some name })) (definable_name_said said) (definable_name said) (λ name is. (fit.0, fit.1, is, fit.3))

form_fit : (s : Settings) (name : Option (List ℕ)) (said : List ℕ) → AreFit s → IfSome (form_given s name said) AreFit
form_fit s None said fit = definable_fit s said fit
form_fit s (Some name) said fit = kept (λ number. with_definition s (record s.definition { form_number = Some number })) (form_number_said said) (λ number. fit)

characteristic_fit : (s : Settings) (name : Option (List ℕ)) (said : List ℕ) → AreFit s → IfSome (characteristic_given s name said) AreFit
characteristic_fit s None said fit = definable_fit s said fit
characteristic_fit s (Some name) said fit = kept (λ number. with_definition s (record s.definition { characteristic_number = Some number })) (byte_said said) (λ number. fit)

merge_fit : (s : Settings) (name : Option (List ℕ)) (said : List ℕ) → AreFit s → IfSome (merge_given s name said) AreFit
merge_fit s None said fit = queue_fit s said fit
merge_fit s (Some target) said fit = kept (λ name. record s { source = Some name }) (short_name_said said) (λ name. fit)

pattern_fit : (s : Settings) (said : List ℕ) → AreFit s → IfSome (pattern_given s said) AreFit
pattern_fit s said fit = kept (λ pattern. record s { listing = record s.listing { pattern = Some pattern } }) (pattern_said said) (λ pattern. fit)

shown_fit : (s : Settings) (said : List ℕ) (digits : Bool) → AreFit s → IfSome (cond digits (entry_given s said) (pattern_given s said)) AreFit
shown_fit s said true fit = kept (λ number. record s { entry = Some number }) (entry_said said) (λ number. fit)
shown_fit s said false fit = pattern_fit s said fit

file_fit : (s : Settings) (said : List ℕ) → AreFit s → IfSome (file_given s said) AreFit
file_fit s said fit = kept (λ file. record s { file = Some file }) (file_name_of said) (λ file. fit)

parametered_fit : (s : Settings) (c : Command) (said : List ℕ) → AreFit s → IfSome (parametered s c said) AreFit
parametered_fit s command.Submit said fit = file_fit s said fit
parametered_fit s command.Print said fit = file_fit s said fit
parametered_fit s command.SetEntry said fit = kept (λ number. record s { entry = Some number }) (entry_said said) (λ number. fit)
parametered_fit s command.ShowEntry said fit = shown_fit s said (are_digits said) fit
parametered_fit s command.ShowQueue said fit = pattern_fit s said fit
parametered_fit s command.ShowForms said fit = pattern_fit s said fit
parametered_fit s command.ShowCharacteristics said fit = pattern_fit s said fit
parametered_fit s command.InitializeQueue said fit = queue_fit s said fit
parametered_fit s command.SetQueue said fit = queue_fit s said fit
parametered_fit s command.StartQueue said fit = queue_fit s said fit
parametered_fit s command.StopQueue said fit = queue_fit s said fit
parametered_fit s command.DeleteQueue said fit = queue_fit s said fit
parametered_fit s command.AssignMerge said fit = merge_fit s s.queue said fit
parametered_fit s command.DefineForm said fit = form_fit s s.definition.name said fit
parametered_fit s command.DefineCharacteristic said fit = characteristic_fit s s.definition.name said fit
parametered_fit s command.DeleteForm said fit = definable_fit s said fit
parametered_fit s command.DeleteCharacteristic said fit = definable_fit s said fit
parametered_fit s _ said fit = tt

-- ---- the parts, one after the other

or_fault_fit : (token : Token) (given : Option Settings) → IfSome given AreFit → IfOk (or_value_fault token given) AreFit
or_fault_fit token None fit = tt
or_fault_fit token (Some s) fit = fit

parameter_fit : (text : List ℕ) (c : Command) (s : Settings) (token : Token) (awaits : Bool) → AreFit s
    → IfOk (cond awaits (Ok (record s { awaits_object = false })) (or_value_fault token (parametered s c (said_by text token)))) AreFit
parameter_fit text c s token true fit = fit
parameter_fit text c s token false fit = or_fault_fit token (parametered s c (said_by text token)) (parametered_fit s c (said_by text token) fit)

equals_fit : (s : Settings) (key : Token) (equals : Bool) → AreFit s → IfOk (cond equals (Ok s) (or_value_fault key None)) AreFit
equals_fit s key true fit = fit
equals_fit s key false fit = tt

key_fit : (text : List ℕ) (s : Settings) (key : Token) (side : Option Side) (inner : Option Token) → AreFit s → IfOk (with_key text s key side inner) AreFit
key_fit text s key (Some side) (Some number) fit =
    or_fault_fit number (margin_given s side (said_by text number))
    (kept (λ margin. with_shape s (with_margin s.definition.shape side margin)) (byte_said (said_by text number)) (λ margin. fit))
key_fit text s key None inner fit = tt
key_fit text s key (Some side) None fit = equals_fit s key (has_equals text key) fit

until_fit : (now : ℕ) (text : List ℕ) (s : Settings) (token : Token) (inner : Option Token) → AreFit s → IfOk (with_until now text s token inner) AreFit
until_fit now text s token None fit = equals_fit s token (has_equals text token) fit
until_fit now text s token (Some time) fit =
    or_fault_fit time (until_given s (moment_said now (raised_by text time)))
    (kept (λ at. with_retain s (Until at)) (moment_said now (raised_by text time)) (λ at. fit))

retain_word_fit : (s : Settings) (token : Token) (retain : Option JobRetain) (inner : Option Token) → AreFit s → IfOk (with_retain_word s token retain inner) AreFit
retain_word_fit s token None inner fit = tt
retain_word_fit s token (Some retain) None fit = fit
retain_word_fit s token (Some retain) (Some value) fit = tt

job_retain_fit : (now : ℕ) (text : List ℕ) (s : Settings) (token : Token) (raised : List ℕ) (inner : Option Token) (until : Bool) → AreFit s
    → IfOk (cond until (with_until now text s token inner) (with_retain_word s token (job_retain_said raised) inner)) AreFit
job_retain_fit now text s token raised inner true fit = until_fit now text s token inner fit
job_retain_fit now text s token raised inner false fit = retain_word_fit s token (job_retain_said raised) inner fit

retained_fit : (now : ℕ) (text : List ℕ) (s : Settings) (token : Token) (raised : List ℕ) (inner : Option Token) (queue : Bool) → AreFit s
    → IfOk (cond queue (or_value_fault token (queue_retain_given s raised)) (with_job_retain now text s token raised inner)) AreFit
retained_fit now text s token raised inner true fit =
    or_fault_fit token (queue_retain_given s raised)
    (kept (λ retain. with_queue_settings s (record s.queue_settings { retain = Some retain })) (queue_retain_said raised) (λ retain. fit))
retained_fit now text s token raised inner false fit = job_retain_fit now text s token raised inner (is_until raised) fit

value_fit : (now : ℕ) (text : List ℕ) (c : Command) (s : Settings) (word : Option Word) (token : Token) (inner : Option Token) → AreFit s
    → IfOk (with_value now text c s word token inner) AreFit
value_fit now text c s (Some words.Margin) token inner fit = key_fit text s token (side_said (raised_by text token)) inner fit
value_fit now text c s (Some words.After) token inner fit =
    or_fault_fit token (after_given s (moment_said now (raised_by text token)))
    (kept (λ at. with_job s (record s.job { after = Some (Some at) })) (moment_said now (raised_by text token)) (λ at. fit))
value_fit now text c s (Some words.Retain) token inner fit = retained_fit now text s token (raised_by text token) inner (is_of_queue c) fit
value_fit now text c s (Some words.Schedule) token inner fit =
    or_fault_fit token (schedule_given s (raised_by text token))
    (kept (λ by_size. with_queue_settings s (record s.queue_settings { by_size = Some by_size })) (schedule_said (raised_by text token)) (λ by_size. fit))
value_fit now text c s word token inner fit = or_fault_fit token (valued s word (said_by text token)) (valued_fit s word (said_by text token) fit)

begun_fit : (s : Settings) (alone : Bool) → AreFit s → IfSome (cond alone (Some (record s { has_node = true })) None) AreFit
begun_fit s true fit = fit
begun_fit s false fit = tt

node_fit : (s : Settings) (alone all : Bool) (said : List ℕ) → AreFit s
    → IfSome (cond all (nodes_begun s alone) (option_map (λ node. record s { has_node = true }) (node_said said))) AreFit
node_fit s alone true said fit = begun_fit s (alone && not s.has_node) fit
node_fit s alone false said fit = kept (λ node. record s { has_node = true }) (node_said said) (λ node. fit)

value_of_fit : (now : ℕ) (text : List ℕ) (c : Command) (s : Settings) (token : Token) (behind : List Part) (nodes : Bool) → AreFit s
    → IfOk (cond nodes (or_value_fault token (node_given s (not (has_value_ahead behind)) (said_by text token))) (with_value now text c s s.word token (inner_value behind))) AreFit
value_of_fit now text c s token behind true fit =
    or_fault_fit token (node_given s (not (has_value_ahead behind)) (said_by text token))
    (node_fit s (not (has_value_ahead behind)) (says_all (said_by text token)) (said_by text token) fit)
value_of_fit now text c s token behind false fit = value_fit now text c s s.word token (inner_value behind) fit

part_fit : (now : ℕ) (text : List ℕ) (c : Command) (s : Settings) (part : Part) (behind : List Part) → AreFit s → IfOk (with_part now text c s part behind) AreFit
part_fit now text c s (Parameter token) behind fit = parameter_fit text c s token s.awaits_object fit
part_fit now text c s (Qualifier word place) behind fit = word_fit s word fit
part_fit now text c s (Value token) behind fit = value_of_fit now text c s token behind (lists_nodes c s.word) fit
part_fit now text c s (KeyValue token) behind fit = fit

then_fit : (given : Result Settings Fault) (go_on : Settings → Result Settings Fault) → IfOk given AreFit
    → ((s : Settings) → AreFit s → IfOk (go_on s) AreFit) → IfOk (on_settings given go_on) AreFit
then_fit (Ok s) go_on fit next = next s fit
then_fit (Err f) go_on fit next = tt

parts_fit : (now : ℕ) (text : List ℕ) (c : Command) (s : Settings) (parts : List Part) → AreFit s → IfOk (settings_from now text c s parts) AreFit
parts_fit now text c s [] fit = fit
parts_fit now text c s (part ∷ parts) fit =
    then_fit (with_part now text c s part parts) (λ t. settings_from now text c t parts) (part_fit now text c s part parts fit) (λ t fit. parts_fit now text c t parts fit)

pub settings_are_fit : (now : ℕ) (text : List ℕ) (c : Command) (parts : List Part) → IfOk (settings_of now text c parts) AreFit
settings_are_fit now text c parts = parts_fit now text c (nothing_given c) parts (tt, tt, tt, tt)
