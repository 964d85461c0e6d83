-- What the parts of a command give, one after the other. Of a qualifier that is given twice the last one counts.
-- DCL Dictionary, on the qualifiers of the commands of queues and jobs.
use Rattle.std.specs.Prelude.{◌≡◌, ℕ, Bool, true, false, not, if◌then◌else◌, List, [], ◌∷◌, Option, None, Some, Result, Ok, Err, ok_or}
use Rattle.qm_kinds.specs.declared.entry.JobRetain.{JobRetain}
use Rattle.qm_kinds.specs.declared.refusal.ParseKind.TheVariants as fault
use Rattle.qm_commands.specs.declared.tokens.token.Token.{Token}
use Rattle.qm_commands.specs.declared.fault.Fault.{Fault}
use Rattle.qm_commands.specs.declared.table.Command.{Command}
use Rattle.qm_commands.specs.declared.table.Command.TheVariants as command
use Rattle.qm_commands.specs.declared.word.Word.{Word}
use Rattle.qm_commands.specs.declared.word.Word.TheVariants as words
use Rattle.qm_grammar.specs.declared.part.Part.{Part}
use Rattle.qm_grammar.specs.declared.part.Part.TheVariants.{Parameter, Qualifier, Value, KeyValue}
use Rattle.qm_dcl.specs.declared.settings.Settings.{Settings}
use Rattle.qm_dcl.specs.declared.settings.JobSettings.{JobSettings}
use Rattle.qm_dcl.specs.declared.settings.ListingSettings.{ListingSettings}
use Rattle.qm_dcl.specs.declared.settings.QueueSettings.{QueueSettings}
use Rattle.qm_dcl.specs.declared.settings.Definition.{Definition}
use Rattle.qm_dcl.specs.declared.value.Side.{Side}
use Rattle.qm_dcl.specs.Forms.{default_shape}
use Rattle.qm_dcl.specs.Given.{with_word, valued, node_given, schedule_given, queue_retain_given, with_retain, until_given, after_given, margin_given, parametered}
use Rattle.qm_dcl.specs.Values.{said_by, raised_by, has_equals, job_retain_said, is_until, side_said, moment_said}

-- what was read, and the settings that it left, or the fault that was told
abbrev pub Leaves : {A : Type 0} → Result A Fault → Settings → Result Settings Fault → Type 0
Leaves (Ok _) s read = read ≡ Ok s
Leaves (Err fault) s read = read ≡ Err fault

-- the first parameter of these commands is their option
abbrev pub has_object : Command → Bool
has_object command.SetEntry = true
has_object command.SetQueue = true
has_object command.ShowForms = true
has_object command.ShowCharacteristics = true
has_object command.ShowManagers = true
has_object command.ShowQueue = true
has_object command.ShowEntry = true
has_object _ = false

-- ---- nothing is given

abbrev pub no_job : JobSettings
no_job = record {
  name = None;
  priority = None;
  after = None;
  hold = false;
  release = false;
  retain = None;
  restart = None;
  form = None;
  copies = 1;
  flag = false;
}

abbrev pub no_queue_settings : QueueSettings
no_queue_settings = record { limit = None; form = None; blocks = None; by_size = None; retain = None; batch = false; location = None; start = false }

abbrev pub no_definition : Definition
no_definition = record { name = None; form_number = None; characteristic_number = None; stock = None; shape = default_shape }

abbrev pub no_listing : ListingSettings
no_listing = record { pattern = None; all_jobs = false; batch = false; device = false; generic = false }

abbrev pub nothing_given : Command → Settings
nothing_given c = record {
  awaits_object = has_object c;
  word = None;
  has_node = false;
  file = None;
  queue = None;
  source = None;
  entry = None;
  stop = None;
  job = no_job;
  queue_settings = no_queue_settings;
  definition = no_definition;
  listing = no_listing;
}

-- ---- one more part

-- a value that can't be read is a fault at its first byte
abbrev pub or_value_fault : Token → Option Settings → Result Settings Fault
or_value_fault token given = ok_or given (record { place = token.start; kind = fault.Value })

-- a parameter, behind the option where that is one
abbrev pub with_parameter : List ℕ → Command → Settings → Token → Result Settings Fault
with_parameter text c s token =
    if s.awaits_object then Ok (record s { awaits_object = false }) else or_value_fault token (parametered s c (said_by text token))

-- A key of /MARGIN: it must name a side, and a number must stand behind its =. Where that can be no value, it is at fault by the
-- grammar, and not the key.
abbrev pub with_key : List ℕ → Settings → Token → Option Side → Option Token → Result Settings Fault
with_key text s key None inner = or_value_fault key None
with_key text s key (Some side) None = if has_equals text key then Ok s else or_value_fault key None
with_key text s key (Some side) (Some number) = or_value_fault number (margin_given s side (said_by text number))

-- UNTIL, behind whose = the moment stands until which a job is kept. Where that can be no value, it is at fault by the grammar,
-- and not the word.
abbrev pub with_until : ℕ → List ℕ → Settings → Token → Option Token → Result Settings Fault
with_until now text s token None = if has_equals text token then Ok s else or_value_fault token None
with_until now text s token (Some time) = or_value_fault time (until_given s (moment_said now (raised_by text time)))

-- a word that says whether a job is kept; it takes no value
abbrev pub with_retain_word : Settings → Token → Option JobRetain → Option Token → Result Settings Fault
with_retain_word s token None inner = or_value_fault token None
with_retain_word s token (Some retain) None = Ok (with_retain s retain)
with_retain_word s token (Some retain) (Some value) = or_value_fault value None

-- the value of /RETAIN of a job
abbrev pub with_job_retain : ℕ → List ℕ → Settings → Token → List ℕ → Option Token → Result Settings Fault
with_job_retain now text s token raised inner =
    if is_until raised then with_until now text s token inner else with_retain_word s token (job_retain_said raised) inner

-- these commands set what a queue does with its jobs
abbrev pub is_of_queue : Command → Bool
is_of_queue command.InitializeQueue = true
is_of_queue command.SetQueue = true
is_of_queue command.StartQueue = true
is_of_queue _ = false

-- the value of /RETAIN, of a queue or of a job
abbrev pub with_retained : ℕ → List ℕ → Command → Settings → Token → List ℕ → Option Token → Result Settings Fault
with_retained now text c s token raised inner =
    if is_of_queue c then or_value_fault token (queue_retain_given s raised) else with_job_retain now text s token raised inner

-- a value of a qualifier, and the value behind its =, if there is one
abbrev pub with_value : ℕ → List ℕ → Command → Settings → Option Word → Token → Option Token → Result Settings Fault
with_value now text c s (Some words.Margin) token inner = with_key text s token (side_said (raised_by text token)) inner
with_value now text c s (Some words.Schedule) token inner = or_value_fault token (schedule_given s (raised_by text token))
with_value now text c s (Some words.After) token inner = or_value_fault token (after_given s (moment_said now (raised_by text token)))
with_value now text c s (Some words.Retain) token inner = with_retained now text c s token (raised_by text token) inner
with_value now text c s word token inner = or_value_fault token (valued s word (said_by text token))

-- the value behind the = of a value, where these parts follow that
abbrev pub inner_value : List Part → Option Token
inner_value [] = None
inner_value (Parameter token ∷ parts) = None
inner_value (Qualifier word place ∷ parts) = None
inner_value (Value token ∷ parts) = None
inner_value (KeyValue token ∷ parts) = Some token

-- the parts begin with one more value
abbrev pub has_value_ahead : List Part → Bool
has_value_ahead [] = false
has_value_ahead (Parameter token ∷ parts) = false
has_value_ahead (Qualifier word place ∷ parts) = false
has_value_ahead (Value token ∷ parts) = true
has_value_ahead (KeyValue token ∷ parts) = false

abbrev pub is_on : Option Word → Bool
is_on None = false
is_on (Some words.On) = true
is_on (Some _) = false

-- the values of this qualifier are the nodes on which the queue manager may run
abbrev pub lists_nodes : Command → Option Word → Bool
lists_nodes command.StartManager word = is_on word
lists_nodes _ word = false

-- a value, with these parts behind it
abbrev pub with_value_of : ℕ → List ℕ → Command → Settings → Token → List Part → Result Settings Fault
with_value_of now text c s token behind =
    if lists_nodes c s.word then or_value_fault token (node_given s (not (has_value_ahead behind)) (said_by text token)) else
    with_value now text c s s.word token (inner_value behind)

-- one more part, with these behind it; the value behind an = is read with the value in front
abbrev pub with_part : ℕ → List ℕ → Command → Settings → Part → List Part → Result Settings Fault
with_part now text c s (Parameter token) behind = with_parameter text c s token
with_part now text c s (Qualifier word place) behind = Ok (with_word s word)
with_part now text c s (Value token) behind = with_value_of now text c s token behind
with_part now text c s (KeyValue token) behind = Ok s

-- ---- all parts

abbrev pub on_settings : Result Settings Fault → (Settings → Result Settings Fault) → Result Settings Fault
on_settings (Ok s) go_on = go_on s
on_settings (Err f) go_on = Err f

abbrev pub settings_from : ℕ → List ℕ → Command → Settings → List Part → Result Settings Fault
settings_from now text c s [] = Ok s
settings_from now text c s (part ∷ parts) = on_settings (with_part now text c s part parts) (λ t. settings_from now text c t parts)

-- what the parts of a command give that is read at a moment, or the first of their values that can't be read
abbrev pub settings_of : ℕ → List ℕ → Command → List Part → Result Settings Fault
settings_of now text c parts = settings_from now text c (nothing_given c) parts
