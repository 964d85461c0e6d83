-- What is given can be said: names of queues, nodes, devices, forms and stocks, forms, and patterns of entries.
use Rattle.std.proofs.Common.{◌≡◌, ℕ, Bool, true, false, cond, List, [], ◌∷◌, Option, None, Some, IfOk, IfSome, refl, sym, subst, option_map}
use Rattle.qm_model.specs.Common.{name_of, file_name_of, NameOrNumber, is_short, is_definable}
use Rattle.qm_commands.specs.declared.tokens.token.Token.{Token}
use Rattle.qm_grammar.specs.declared.part.Part.{Part}
use Rattle.qm_grammar.specs.declared.part.Part.TheVariants.{Parameter, Qualifier, Value, KeyValue}
use Rattle.qm_commands.specs.declared.table.Command.{Command}
use Rattle.qm_commands.specs.declared.table.Command.TheVariants as command
use Rattle.qm_commands.specs.declared.word.Word.{Word}
use Rattle.qm_commands.specs.declared.word.Word.TheVariants as words
use Rattle.qm_dcl.specs.declared.settings.JobSettings.{JobSettings}
use Rattle.qm_dcl.specs.declared.settings.ListingSettings.{ListingSettings}
use Rattle.qm_dcl.specs.declared.settings.QueueSettings.{QueueSettings}
use Rattle.qm_dcl.specs.declared.settings.Settings.{Settings}
use Rattle.qm_dcl.specs.declared.value.Location.{Location}
use Rattle.qm_dcl.specs.Values.{are_digits, byte_said, form_number_said, entry_said, blocks_said, short_name_said, definable_name_said, form_said, characteristic_said, location_said, pattern_said}
use Rattle.qm_dcl.specs.Given.{job_marked, queue_marked, listing_marked, with_word, with_job, with_queue_settings, with_definition, with_shape, queue_given, entry_given, blocks_with, valued, definable_given, form_given, characteristic_given, merge_given, file_given, pattern_given, parametered}
use Rattle.qm_dcl.specs.Settings.{settings_of}
use Rattle.qm_sayable.specs.Values.{is_form_reference}
use Rattle.qm_spelling.proofs.ReadValues.{short_name, definable_name, reference, pattern, IsPlace, location}
use Rattle.qm_spelling.proofs.ReadSettings.{AreAll, IsKept, holds}

abbrev pub IsShort : Option (List ℕ) → Type 0
IsShort name = IfSome name (λ n. is_short n ≡ true)

abbrev pub IsDefinable : Option (List ℕ) → Type 0
IsDefinable name = IfSome name (λ n. is_definable n ≡ true)

abbrev pub IsForm : Option NameOrNumber → Type 0
IsForm form = IfSome form (λ f. is_form_reference f ≡ true)

-- the pattern of this command stands where a number may
abbrev pub takes_number : Command → Bool
takes_number command.ShowEntry = true
takes_number _ = false

-- what is given can be said
abbrev pub AreSayable : Command → Settings → Type 0
AreSayable c s =
    IsShort s.queue × IsShort s.source × IfSome s.queue_settings.location IsPlace × IsDefinable s.definition.name × IsShort s.definition.stock
    × IsForm s.job.form × IsForm s.queue_settings.form × IfSome s.listing.pattern (λ p. takes_number c ≡ true → are_digits p ≡ false)

-- ---- what a qualifier leaves as it is

same_job_form : (job : JobSettings) (word : Word) → (job_marked job word).form ≡ job.form
same_job_form job words.Restart = refl
same_job_form job words.NoRestart = refl
same_job_form job words.Flag = refl
same_job_form job words.NoFlag = refl
same_job_form job words.Hold = refl
same_job_form job words.Release = refl
same_job_form job words.NoAfter = refl
same_job_form job _ = refl

pub same_location : (queue : QueueSettings) (word : Word) → (queue_marked queue word).location ≡ queue.location
same_location queue words.Batch = refl
same_location queue words.Start = refl
same_location queue words.BlockLimit = refl
same_location queue words.NoBlockLimit = refl
same_location queue words.NoRetain = refl
same_location queue _ = refl

same_queue_form : (queue : QueueSettings) (word : Word) → (queue_marked queue word).form ≡ queue.form
same_queue_form queue words.Batch = refl
same_queue_form queue words.Start = refl
same_queue_form queue words.BlockLimit = refl
same_queue_form queue words.NoBlockLimit = refl
same_queue_form queue words.NoRetain = refl
same_queue_form queue _ = refl

same_pattern : (listing : ListingSettings) (word : Word) → (listing_marked listing word).pattern ≡ listing.pattern
same_pattern listing words.AllJobs = refl
same_pattern listing words.Batch = refl
same_pattern listing words.Device = refl
same_pattern listing words.Generic = refl
same_pattern listing _ = refl

module _ (c : Command) where
  abbrev Says : Settings → Type 0
  Says s = AreSayable c s

  word_says : (s : Settings) (word : Word) → Says s → Says (with_word s word)
  word_says s word p = (
    p.0,
    p.1,
    subst (λ (l : Option Location). IfSome l IsPlace) (sym (same_location s.queue_settings word)) p.2,
    p.3,
    p.4,
    subst IsForm (sym (same_job_form s.job word)) p.5,
    subst IsForm (sym (same_queue_form s.queue_settings word)) p.6,
    subst (λ (q : Option (List ℕ)). IfSome q (λ n. takes_number c ≡ true → are_digits n ≡ false)) (sym (same_pattern s.listing word)) p.7,
  )

  -- what is given of something that is so
  giving : {X : Type 0} (Q : X → Type 0) (give : X → Settings) (given : Option X) → IfSome given Q → ((x : X) → Q x → Says (give x)) → IfSome (option_map give given) Says
  giving Q give None is says = tt
  giving Q give (Some x) is says = says x is

  -- what gives something else
  kept : {X : Type 0} (give : X → Settings) (given : Option X) → ((x : X) → Says (give x)) → IfSome (option_map give given) Says
  kept give None says = tt
  kept give (Some x) says = says x

  queue_says : (s : Settings) (said : List ℕ) → Says s → IfSome (queue_given s said) Says
  queue_says s said p =
      giving (λ name. is_short name ≡ true) (λ name. record s { queue = Some name }) (short_name_said said) (short_name said)
      (λ name is. (is, p.1, p.2, p.3, p.4, p.5, p.6, p.7))

  valued_says : (s : Settings) (word : Option Word) (said : List ℕ) → Says s → IfSome (valued s word said) Says
  valued_says s None said p = tt
  valued_says s (Some words.Queue) said p = queue_says s said p
  valued_says s (Some words.Requeue) said p = queue_says s said p
  valued_says s (Some words.Entry) said p = kept (λ number. record s { entry = Some number }) (entry_said said) (λ number. p)
  valued_says s (Some words.Name) said p = kept (λ name. with_job s (record s.job { name = Some name })) (name_of said) (λ name. p)
  valued_says s (Some words.Priority) said p = kept (λ number. with_job s (record s.job { priority = Some number })) (byte_said said) (λ number. p)
  valued_says s (Some words.Form) said p =
      giving (λ form. is_form_reference form ≡ true) (λ form. with_job s (record s.job { form = Some form })) (form_said said) (reference 65535 said)
      (λ form is. (p.0, p.1, p.2, p.3, p.4, is, p.6, p.7))
  valued_says s (Some words.Copies) said p = kept (λ number. with_job s (record s.job { copies = number })) (byte_said said) (λ number. p)
  valued_says s (Some words.JobLimit) said p = kept (λ number. with_queue_settings s (record s.queue_settings { limit = Some number })) (byte_said said) (λ number. p)
  valued_says s (Some words.FormMounted) said p =
      giving (λ form. is_form_reference form ≡ true) (λ form. with_queue_settings s (record s.queue_settings { form = Some form })) (form_said said) (reference 65535 said)
      (λ form is. (p.0, p.1, p.2, p.3, p.4, p.5, is, p.7))
  valued_says s (Some words.BlockLimit) said p = kept (λ number. with_queue_settings s (record s.queue_settings { blocks = Some (blocks_with s.queue_settings.blocks number) })) (blocks_said said) (λ number. p)
  valued_says s (Some words.On) said p =
      giving IsPlace (λ l. with_queue_settings s (record s.queue_settings { location = Some l })) (location_said said) (location said)
      (λ l is. (p.0, p.1, is, p.3, p.4, p.5, p.6, p.7))
  valued_says s (Some words.Stock) said p =
      giving (λ name. is_short name ≡ true) (λ name. with_definition s (record s.definition { stock = Some name })) (short_name_said said) (short_name said)
      (λ name is. (p.0, p.1, p.2, p.3, is, p.5, p.6, p.7))
  valued_says s (Some words.Length) said p = kept (λ number. with_shape s (record s.definition.shape { length = number })) (byte_said said) (λ number. p)
  valued_says s (Some words.Width) said p = kept (λ number. with_shape s (record s.definition.shape { width = number })) (byte_said said) (λ number. p)
  valued_says s (Some words.Characteristics) said p = kept (λ characteristic. s) (characteristic_said said) (λ characteristic. p)
  valued_says s (Some words.Generic) said p = kept (λ name. s) (short_name_said said) (λ name. p)
  valued_says s (Some _) said p = tt

  definable_says : (s : Settings) (said : List ℕ) → Says s → IfSome (definable_given s said) Says
  definable_says s said p =
      giving (λ name. is_definable name ≡ true) (λ name. with_definition s (record s.definition { name = Some name })) (definable_name_said said) (definable_name said)
      (λ name is. (p.0, p.1, p.2, is, p.4, p.5, p.6, p.7))

  form_says : (s : Settings) (name : Option (List ℕ)) (said : List ℕ) → Says s → IfSome (form_given s name said) Says
  form_says s None said p = definable_says s said p
  form_says s (Some name) said p = kept (λ number. with_definition s (record s.definition { form_number = Some number })) (form_number_said said) (λ number. p)

  characteristic_says : (s : Settings) (name : Option (List ℕ)) (said : List ℕ) → Says s → IfSome (characteristic_given s name said) Says
  characteristic_says s None said p = definable_says s said p
  characteristic_says s (Some name) said p = kept (λ number. with_definition s (record s.definition { characteristic_number = Some number })) (byte_said said) (λ number. p)

  merge_says : (s : Settings) (name : Option (List ℕ)) (said : List ℕ) → Says s → IfSome (merge_given s name said) Says
  merge_says s None said p = queue_says s said p
  merge_says s (Some target) said p =
      giving (λ name. is_short name ≡ true) (λ name. record s { source = Some name }) (short_name_said said) (short_name said)
      (λ name is. (p.0, is, p.2, p.3, p.4, p.5, p.6, p.7))

  -- a pattern where no number may stand, or that is none
  pattern_says : (s : Settings) (said : List ℕ) → (takes_number c ≡ true → are_digits said ≡ false) → Says s → IfSome (pattern_given s said) Says
  pattern_says s said digits p =
      giving (λ q. takes_number c ≡ true → are_digits q ≡ false) (λ q. record s { listing = record s.listing { pattern = Some q } }) (pattern_said said) (by (pattern_said said) (λ number. pattern said (digits number)))
      (λ q is. (p.0, p.1, p.2, p.3, p.4, p.5, p.6, is))
    where
      by : (said : Option (List ℕ)) → (takes_number c ≡ true → IfSome said (λ q. are_digits q ≡ false)) → IfSome said (λ q. takes_number c ≡ true → are_digits q ≡ false)
      by None h = tt
      by (Some q) h = h

  shown_says : (s : Settings) (said : List ℕ) (digits : Bool) → are_digits said ≡ digits → Says s → IfSome (cond digits (entry_given s said) (pattern_given s said)) Says
  shown_says s said true is p = kept (λ number. record s { entry = Some number }) (entry_said said) (λ number. p)
  shown_says s said false is p = pattern_says s said (λ number. is) p

  file_says : (s : Settings) (said : List ℕ) → Says s → IfSome (file_given s said) Says
  file_says s said p = kept (λ file. record s { file = Some file }) (file_name_of said) (λ file. p)

parametered_says : (c : Command) (s : Settings) (said : List ℕ) → AreSayable c s → IfSome (parametered s c said) (AreSayable c)
parametered_says command.Submit s said p = file_says command.Submit s said p
parametered_says command.Print s said p = file_says command.Print s said p
parametered_says command.SetEntry s said p = kept command.SetEntry (λ number. record s { entry = Some number }) (entry_said said) (λ number. p)
parametered_says command.ShowEntry s said p = shown_says command.ShowEntry s said (are_digits said) refl p
parametered_says command.ShowQueue s said p = pattern_says command.ShowQueue s said (λ no. absurd cc) p
parametered_says command.ShowForms s said p = pattern_says command.ShowForms s said (λ no. absurd cc) p
parametered_says command.ShowCharacteristics s said p = pattern_says command.ShowCharacteristics s said (λ no. absurd cc) p
parametered_says command.InitializeQueue s said p = queue_says command.InitializeQueue s said p
parametered_says command.SetQueue s said p = queue_says command.SetQueue s said p
parametered_says command.StartQueue s said p = queue_says command.StartQueue s said p
parametered_says command.StopQueue s said p = queue_says command.StopQueue s said p
parametered_says command.DeleteQueue s said p = queue_says command.DeleteQueue s said p
parametered_says command.AssignMerge s said p = merge_says command.AssignMerge s s.queue said p
parametered_says command.DefineForm s said p = form_says command.DefineForm s s.definition.name said p
parametered_says command.DefineCharacteristic s said p = characteristic_says command.DefineCharacteristic s s.definition.name said p
parametered_says command.DeleteForm s said p = definable_says command.DeleteForm s said p
parametered_says command.DeleteCharacteristic s said p = definable_says command.DeleteCharacteristic s said p
parametered_says _ s said p = tt

-- ---- the parts, one after the other

abbrev any_word : Word → Type 0
any_word word = Unit {0}

abbrev any_value : Token → List Part → Type 0
any_value token behind = Unit {0}

all_are : (parts : List Part) → AreAll any_word any_value parts
all_are [] = tt
all_are (Parameter token ∷ parts) = all_are parts
all_are (Qualifier word place ∷ parts) = (tt, all_are parts)
all_are (Value token ∷ parts) = (tt, all_are parts)
all_are (KeyValue token ∷ parts) = all_are parts

each_says : (text : List ℕ) (c : Command) → IsKept text c (Unit {0}) (λ word i. i) (λ i. i) any_word any_value (λ i s. AreSayable c s)
each_says text c = record {
  object = λ i s p. p;
  node = λ i s nodes p. p;
  word = λ i s word is p. word_says c s word p;
  parameter = λ i s said p. parametered_says c s said p;
  value = λ i s word said is p. valued_says c s word said p;
  margin = λ i s side margin is p. p;
  schedule = λ i s by_size is p. p;
  queue_retain = λ i s retain is queue p. p;
  retain = λ i s retain is job p. p;
  after = λ i s at is p. p;
  skipped = λ i s token behind is equals none p. p;
}

-- all that is given can be said
pub settings_are_sayable : (now : ℕ) (text : List ℕ) (c : Command) (parts : List Part) → IfOk (settings_of now text c parts) (AreSayable c)
settings_are_sayable now text c parts =
    holds now text c (Unit {0}) (λ word i. i) (λ i. i) any_word any_value (λ i s. AreSayable c s) (each_says text c) parts tt (all_are parts) (tt, tt, tt, tt, tt, tt, tt, tt)
