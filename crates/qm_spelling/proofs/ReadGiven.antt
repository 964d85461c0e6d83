-- What is given of a job and of where a queue stands is given by its qualifiers.
use Rattle.std.proofs.Common.{◌≡◌, ℕ, Bool, true, false, ◌||◌, List, Option, None, Some, IfOk, IfSome, is_some, refl, sym, ap, ◌∙◌, subst, option_map}
use Rattle.qm_kinds.specs.Files.{name_of, file_name_of}
use Rattle.qm_commands.specs.declared.tokens.token.Token.{Token}
use Rattle.qm_grammar.specs.declared.part.Part.{Part}
use Rattle.qm_commands.specs.declared.table.Command.TheVariants as command
use Rattle.qm_commands.specs.declared.word.Word.{Word}
use Rattle.qm_commands.specs.declared.word.Word.TheVariants as words
use Rattle.qm_dcl.specs.declared.settings.JobSettings.{JobSettings}
use Rattle.qm_dcl.specs.declared.settings.Settings.{Settings}
use Rattle.qm_dcl.specs.Values.{byte_said, entry_said, blocks_said, short_name_said, form_said, characteristic_said, location_said}
use Rattle.qm_dcl.specs.Given.{job_marked, with_job, with_queue_settings, with_definition, with_shape, blocks_with, valued}
use Rattle.qm_dcl.specs.Settings.{settings_of}
use Rattle.qm_sayable.specs.Jobs.{is_timed}
use Rattle.qm_spelling.proofs.ReadSayable.{same_location}
use Rattle.qm_spelling.proofs.ReadSettings.{folded, AreAll, IsKept, holds}
use Rattle.qm_spelling.proofs.ReadTokens.{or_left, or_right}

-- ---- which qualifiers

abbrev pub is_release : Word → Bool
is_release words.Release = true
is_release _ = false

abbrev pub is_hold : Word → Bool
is_hold words.Hold = true
is_hold _ = false

abbrev pub is_on : Word → Bool
is_on words.On = true
is_on _ = false

abbrev pub is_after : Word → Bool
is_after words.After = true
is_after _ = false

-- /AFTER is given, and /NOAFTER takes it back
abbrev pub after_given : Word → Bool → Bool
after_given words.After b = true
after_given words.NoAfter b = false
after_given _ b = b

-- all that SUBMIT takes, and more
abbrev pub is_of_batch : Word → Bool
is_of_batch words.Form = false
is_of_batch words.Copies = false
is_of_batch words.Flag = false
is_of_batch _ = true

each : {X : Type 0} (P : Settings → Type 0) (give : X → Settings) (given : Option X) → ((x : X) → P (give x)) → IfSome (option_map give given) P
each P give None keeps = tt
each P give (Some x) keeps = keeps x

-- ---- values leave when a job starts as it is

abbrev StartsAlike : Settings → Settings → Type 0
StartsAlike s t = (t.word ≡ s.word) × (t.job.release ≡ s.job.release) × (t.job.hold ≡ s.job.hold) × (t.job.after ≡ s.job.after)

valued_alike : (s : Settings) (word : Option Word) (said : List ℕ) → IfSome (valued s word said) (StartsAlike s)
valued_alike s None said = tt
valued_alike s (Some words.Queue) said = each (StartsAlike s) (λ name. record s { queue = Some name }) (short_name_said said) (λ name. (refl, refl, refl, refl))
valued_alike s (Some words.Requeue) said = each (StartsAlike s) (λ name. record s { queue = Some name }) (short_name_said said) (λ name. (refl, refl, refl, refl))
valued_alike s (Some words.Entry) said = each (StartsAlike s) (λ number. record s { entry = Some number }) (entry_said said) (λ number. (refl, refl, refl, refl))
valued_alike s (Some words.Name) said = each (StartsAlike s) (λ name. with_job s (record s.job { name = Some name })) (name_of said) (λ name. (refl, refl, refl, refl))
valued_alike s (Some words.Priority) said = each (StartsAlike s) (λ number. with_job s (record s.job { priority = Some number })) (byte_said said) (λ number. (refl, refl, refl, refl))
valued_alike s (Some words.Form) said = each (StartsAlike s) (λ form. with_job s (record s.job { form = Some form })) (form_said said) (λ form. (refl, refl, refl, refl))
valued_alike s (Some words.Copies) said = each (StartsAlike s) (λ number. with_job s (record s.job { copies = number })) (byte_said said) (λ number. (refl, refl, refl, refl))
valued_alike s (Some words.JobLimit) said = each (StartsAlike s) (λ number. with_queue_settings s (record s.queue_settings { limit = Some number })) (byte_said said) (λ number. (refl, refl, refl, refl))
valued_alike s (Some words.FormMounted) said = each (StartsAlike s) (λ form. with_queue_settings s (record s.queue_settings { form = Some form })) (form_said said) (λ form. (refl, refl, refl, refl))
valued_alike s (Some words.BlockLimit) said = each (StartsAlike s) (λ number. with_queue_settings s (record s.queue_settings { blocks = Some (blocks_with s.queue_settings.blocks number) })) (blocks_said said) (λ number. (refl, refl, refl, refl))
valued_alike s (Some words.On) said = each (StartsAlike s) (λ location. with_queue_settings s (record s.queue_settings { location = Some location })) (location_said said) (λ location. (refl, refl, refl, refl))
valued_alike s (Some words.Stock) said = each (StartsAlike s) (λ name. with_definition s (record s.definition { stock = Some name })) (short_name_said said) (λ name. (refl, refl, refl, refl))
valued_alike s (Some words.Length) said = each (StartsAlike s) (λ number. with_shape s (record s.definition.shape { length = number })) (byte_said said) (λ number. (refl, refl, refl, refl))
valued_alike s (Some words.Width) said = each (StartsAlike s) (λ number. with_shape s (record s.definition.shape { width = number })) (byte_said said) (λ number. (refl, refl, refl, refl))
valued_alike s (Some words.Characteristics) said = each (StartsAlike s) (λ characteristic. s) (characteristic_said said) (λ characteristic. (refl, refl, refl, refl))
valued_alike s (Some words.Generic) said = each (StartsAlike s) (λ name. s) (short_name_said said) (λ name. (refl, refl, refl, refl))
valued_alike s (Some _) said = tt

-- what holds of when a job starts, and of the last qualifier
abbrev pub Of : (Option Word → Bool → Bool → Option (Option ℕ) → Type 0) → Settings → Type 0
Of Q s = Q s.word s.job.release s.job.hold s.job.after

alike : (Q : Option Word → Bool → Bool → Option (Option ℕ) → Type 0) (s : Settings) (o : Option Settings) → IfSome o (StartsAlike s) → Of Q s → IfSome o (Of Q)
alike Q s None same q = tt
alike Q s (Some t) same q =
    subst (λ (w : Option Word). Q w t.job.release t.job.hold t.job.after) (sym same.0)
    (subst (λ (b : Bool). Q s.word b t.job.hold t.job.after) (sym same.1)
    (subst (λ (b : Bool). Q s.word s.job.release b t.job.after) (sym same.2)
    (subst (λ (o : Option (Option ℕ)). Q s.word s.job.release s.job.hold o) (sym same.3) q)))

-- ---- /RELEASE and /HOLD

release_marked : (job : JobSettings) (word : Word) (b : Bool) → (job.release ≡ true → b ≡ true) → (job_marked job word).release ≡ true → (is_release word || b) ≡ true
release_marked job words.Restart b had h = had h
release_marked job words.NoRestart b had h = had h
release_marked job words.Flag b had h = had h
release_marked job words.NoFlag b had h = had h
release_marked job words.Hold b had h = had h
release_marked job words.Release b had h = refl
release_marked job words.NoAfter b had h = had h
release_marked job _ b had h = had h

hold_marked : (job : JobSettings) (word : Word) (b : Bool) → (job.hold ≡ true → b ≡ true) → (job_marked job word).hold ≡ true → (is_hold word || b) ≡ true
hold_marked job words.Restart b had h = had h
hold_marked job words.NoRestart b had h = had h
hold_marked job words.Flag b had h = had h
hold_marked job words.NoFlag b had h = had h
hold_marked job words.Hold b had h = refl
hold_marked job words.Release b had h = had h
hold_marked job words.NoAfter b had h = had h
hold_marked job _ b had h = had h

after_marked : (job : JobSettings) (word : Word) (b : Bool) → (is_timed job.after ≡ true → b ≡ true) → is_timed (job_marked job word).after ≡ true → after_given word b ≡ true
after_marked job words.Restart b had h = had h
after_marked job words.NoRestart b had h = had h
after_marked job words.Flag b had h = had h
after_marked job words.NoFlag b had h = had h
after_marked job words.Hold b had h = had h
after_marked job words.Release b had h = had h
after_marked job words.NoAfter b had h = absurd cc
after_marked job words.After b had h = refl
after_marked job _ b had h = had h

after_itself : (word : Word) (b : Bool) → is_after word ≡ true → after_given word b ≡ true
after_itself words.After b h = refl
after_itself _ b h = absurd cc

-- what is so of a job, where a truth value beside it says whether a qualifier counts
abbrev pub Releases : Bool → Option Word → Bool → Bool → Option (Option ℕ) → Type 0
Releases b word release hold after = release ≡ true → b ≡ true

abbrev pub Holds : Bool → Option Word → Bool → Bool → Option (Option ℕ) → Type 0
Holds b word release hold after = hold ≡ true → b ≡ true

abbrev pub Times : Bool → Option Word → Bool → Bool → Option (Option ℕ) → Type 0
Times b word release hold after = (is_timed after ≡ true → b ≡ true) × IfSome word (λ w. is_after w ≡ true → b ≡ true)

module _ (text : List ℕ) (may : Word → Type 0) (keyed : Token → List Part → Type 0) where
  release_kept : IsKept text command.SetEntry Bool (λ word b. is_release word || b) (λ b. b) may keyed (λ b. Of (Releases b))
  release_kept = record {
    object = λ b s p. p;
    node = λ b s nodes p. p;
    word = λ b s word is p. release_marked s.job word b p;
    parameter = λ b s said p. each (Of (Releases b)) (λ number. record s { entry = Some number }) (entry_said said) (λ number. p);
    value = λ b s word said is p. alike (Releases b) s (valued s word said) (valued_alike s word said) p;
    margin = λ b s side margin is p. p;
    schedule = λ b s by_size is p. p;
    queue_retain = λ b s retain is queue p. p;
    retain = λ b s retain is job p. p;
    after = λ b s at is p. p;
    skipped = λ b s token behind is equals none p. p;
  }

  hold_kept : IsKept text command.SetEntry Bool (λ word b. is_hold word || b) (λ b. b) may keyed (λ b. Of (Holds b))
  hold_kept = record {
    object = λ b s p. p;
    node = λ b s nodes p. p;
    word = λ b s word is p. hold_marked s.job word b p;
    parameter = λ b s said p. each (Of (Holds b)) (λ number. record s { entry = Some number }) (entry_said said) (λ number. p);
    value = λ b s word said is p. alike (Holds b) s (valued s word said) (valued_alike s word said) p;
    margin = λ b s side margin is p. p;
    schedule = λ b s by_size is p. p;
    queue_retain = λ b s retain is queue p. p;
    retain = λ b s retain is job p. p;
    after = λ b s at is p. p;
    skipped = λ b s token behind is equals none p. p;
  }

  after_kept : IsKept text command.SetEntry Bool after_given (λ b. b) may keyed (λ b. Of (Times b))
  after_kept = record {
    object = λ b s p. p;
    node = λ b s nodes p. p;
    word = λ b s word is p. (after_marked s.job word b p.0, after_itself word b);
    parameter = λ b s said p. each (Of (Times b)) (λ number. record s { entry = Some number }) (entry_said said) (λ number. p);
    value = λ b s word said is p. alike (Times b) s (valued s word said) (valued_alike s word said) p;
    margin = λ b s side margin is p. p;
    schedule = λ b s by_size is p. p;
    queue_retain = λ b s retain is queue p. p;
    retain = λ b s retain is job p. p;
    after = λ b s at is p.
        let last : true ≡ true → b ≡ true = subst (λ (w : Option Word). IfSome w (λ x. is_after x ≡ true → b ≡ true)) (sym is) p.1 in
        ((λ h. last refl), p.1);
    skipped = λ b s token behind is equals none p. p;
  }

  module _ (now : ℕ) (parts : List Part) (all : AreAll may keyed parts) where
    -- what is released was, by a qualifier
    pub release_is_given : IfOk (settings_of now text command.SetEntry parts) (λ s. s.job.release ≡ true → folded (λ word b. is_release word || b) (λ b. b) false parts ≡ true)
    release_is_given =
        holds now text command.SetEntry Bool (λ word b. is_release word || b) (λ b. b) may keyed (λ b. Of (Releases b)) release_kept parts false all (λ h. absurd cc)

    pub hold_is_given : IfOk (settings_of now text command.SetEntry parts) (λ s. s.job.hold ≡ true → folded (λ word b. is_hold word || b) (λ b. b) false parts ≡ true)
    hold_is_given =
        holds now text command.SetEntry Bool (λ word b. is_hold word || b) (λ b. b) may keyed (λ b. Of (Holds b)) hold_kept parts false all (λ h. absurd cc)

    -- and so was the moment for which it waits, and not taken back
    pub after_is_given : IfOk (settings_of now text command.SetEntry parts) (λ s. Of (Times (folded after_given (λ b. b) false parts)) s)
    after_is_given =
        holds now text command.SetEntry Bool after_given (λ b. b) may keyed (λ b. Of (Times b)) after_kept parts false all ((λ h. absurd cc), tt)

-- ---- /ON

abbrev pub Located : Bool → Settings → Type 0
Located b s = (is_some s.queue_settings.location ≡ true → b ≡ true) × IfSome s.word (λ w. is_on w ≡ true → b ≡ true)

module _ (b : Bool) where
  valued_located : (s : Settings) (word : Option Word) (said : List ℕ) → Located b s → IfSome word (λ w. is_on w ≡ true → b ≡ true) → IfSome (valued s word said) (Located b)
  valued_located s None said p on = tt
  valued_located s (Some words.Queue) said p on = each (Located b) (λ name. record s { queue = Some name }) (short_name_said said) (λ name. p)
  valued_located s (Some words.Requeue) said p on = each (Located b) (λ name. record s { queue = Some name }) (short_name_said said) (λ name. p)
  valued_located s (Some words.Entry) said p on = each (Located b) (λ number. record s { entry = Some number }) (entry_said said) (λ number. p)
  valued_located s (Some words.Name) said p on = each (Located b) (λ name. with_job s (record s.job { name = Some name })) (name_of said) (λ name. p)
  valued_located s (Some words.Priority) said p on = each (Located b) (λ number. with_job s (record s.job { priority = Some number })) (byte_said said) (λ number. p)
  valued_located s (Some words.Form) said p on = each (Located b) (λ form. with_job s (record s.job { form = Some form })) (form_said said) (λ form. p)
  valued_located s (Some words.Copies) said p on = each (Located b) (λ number. with_job s (record s.job { copies = number })) (byte_said said) (λ number. p)
  valued_located s (Some words.JobLimit) said p on = each (Located b) (λ number. with_queue_settings s (record s.queue_settings { limit = Some number })) (byte_said said) (λ number. p)
  valued_located s (Some words.FormMounted) said p on = each (Located b) (λ form. with_queue_settings s (record s.queue_settings { form = Some form })) (form_said said) (λ form. p)
  valued_located s (Some words.BlockLimit) said p on = each (Located b) (λ number. with_queue_settings s (record s.queue_settings { blocks = Some (blocks_with s.queue_settings.blocks number) })) (blocks_said said) (λ number. p)
  valued_located s (Some words.On) said p on = each (Located b) (λ location. with_queue_settings s (record s.queue_settings { location = Some location })) (location_said said) (λ location. ((λ h. on refl), p.1))
  valued_located s (Some words.Stock) said p on = each (Located b) (λ name. with_definition s (record s.definition { stock = Some name })) (short_name_said said) (λ name. p)
  valued_located s (Some words.Length) said p on = each (Located b) (λ number. with_shape s (record s.definition.shape { length = number })) (byte_said said) (λ number. p)
  valued_located s (Some words.Width) said p on = each (Located b) (λ number. with_shape s (record s.definition.shape { width = number })) (byte_said said) (λ number. p)
  valued_located s (Some words.Characteristics) said p on = each (Located b) (λ characteristic. s) (characteristic_said said) (λ characteristic. p)
  valued_located s (Some words.Generic) said p on = each (Located b) (λ name. s) (short_name_said said) (λ name. p)
  valued_located s (Some _) said p on = tt

last_on : (b : Bool) (s : Settings) (word : Option Word) → word ≡ s.word → Located b s → IfSome word (λ w. is_on w ≡ true → b ≡ true)
last_on b s word is p = subst (λ (w : Option Word). IfSome w (λ x. is_on x ≡ true → b ≡ true)) (sym is) p.1

module _ (text : List ℕ) (may : Word → Type 0) (keyed : Token → List Part → Type 0) where
  location_kept : IsKept text command.InitializeQueue Bool (λ word b. is_on word || b) (λ b. b) may keyed Located
  location_kept = record {
    object = λ b s p. p;
    node = λ b s nodes p. p;
    word = λ b s word is p. (
      (λ h. or_right (is_on word) b (p.0 (sym (ap is_some (same_location s.queue_settings word)) ∙ h))),
      (λ h. or_left (is_on word) b h),
    );
    parameter = λ b s said p. each (Located b) (λ name. record s { queue = Some name }) (short_name_said said) (λ name. p);
    value = λ b s word said is p. valued_located b s word said p (last_on b s word is p);
    margin = λ b s side margin is p. p;
    schedule = λ b s by_size is p. p;
    queue_retain = λ b s retain is queue p. p;
    retain = λ b s retain is job p. p;
    after = λ b s at is p. p;
    skipped = λ b s token behind is equals none p. p;
  }

  -- where a queue stands is given by a qualifier
  pub location_is_given : (now : ℕ) (parts : List Part) → AreAll may keyed parts
      → IfOk (settings_of now text command.InitializeQueue parts) (Located (folded (λ word b. is_on word || b) (λ b. b) false parts))
  location_is_given now parts all =
      holds now text command.InitializeQueue Bool (λ word b. is_on word || b) (λ b. b) may keyed Located location_kept parts false all ((λ h. absurd cc), tt)

-- ---- SUBMIT

abbrev pub IsBatchWord : Word → Type 0
IsBatchWord word = is_of_batch word ≡ true

abbrev pub IsBatch : Settings → Type 0
IsBatch s = (s.job.form ≡ None) × (s.job.copies ≡ 1) × (s.job.flag ≡ false) × IfSome s.word IsBatchWord

batch_marked : (job : JobSettings) (word : Word) → is_of_batch word ≡ true → job.form ≡ None → job.copies ≡ 1 → job.flag ≡ false
    → ((job_marked job word).form ≡ None) × ((job_marked job word).copies ≡ 1) × ((job_marked job word).flag ≡ false)
batch_marked job words.Restart is form copies flag = (form, copies, flag)
batch_marked job words.NoRestart is form copies flag = (form, copies, flag)
batch_marked job words.Flag is form copies flag = absurd cc
batch_marked job words.NoFlag is form copies flag = (form, copies, refl)
batch_marked job words.Hold is form copies flag = (form, copies, flag)
batch_marked job words.Release is form copies flag = (form, copies, flag)
batch_marked job words.NoAfter is form copies flag = (form, copies, flag)
batch_marked job _ is form copies flag = (form, copies, flag)

valued_batch : (s : Settings) (word : Option Word) (said : List ℕ) → IsBatch s → IfSome word IsBatchWord → IfSome (valued s word said) IsBatch
valued_batch s None said p is = tt
valued_batch s (Some words.Queue) said p is = each IsBatch (λ name. record s { queue = Some name }) (short_name_said said) (λ name. p)
valued_batch s (Some words.Requeue) said p is = each IsBatch (λ name. record s { queue = Some name }) (short_name_said said) (λ name. p)
valued_batch s (Some words.Entry) said p is = each IsBatch (λ number. record s { entry = Some number }) (entry_said said) (λ number. p)
valued_batch s (Some words.Name) said p is = each IsBatch (λ name. with_job s (record s.job { name = Some name })) (name_of said) (λ name. p)
valued_batch s (Some words.Priority) said p is = each IsBatch (λ number. with_job s (record s.job { priority = Some number })) (byte_said said) (λ number. p)
valued_batch s (Some words.Form) said p is = absurd cc
valued_batch s (Some words.Copies) said p is = absurd cc
valued_batch s (Some words.JobLimit) said p is = each IsBatch (λ number. with_queue_settings s (record s.queue_settings { limit = Some number })) (byte_said said) (λ number. p)
valued_batch s (Some words.FormMounted) said p is = each IsBatch (λ form. with_queue_settings s (record s.queue_settings { form = Some form })) (form_said said) (λ form. p)
valued_batch s (Some words.BlockLimit) said p is = each IsBatch (λ number. with_queue_settings s (record s.queue_settings { blocks = Some (blocks_with s.queue_settings.blocks number) })) (blocks_said said) (λ number. p)
valued_batch s (Some words.On) said p is = each IsBatch (λ location. with_queue_settings s (record s.queue_settings { location = Some location })) (location_said said) (λ location. p)
valued_batch s (Some words.Stock) said p is = each IsBatch (λ name. with_definition s (record s.definition { stock = Some name })) (short_name_said said) (λ name. p)
valued_batch s (Some words.Length) said p is = each IsBatch (λ number. with_shape s (record s.definition.shape { length = number })) (byte_said said) (λ number. p)
valued_batch s (Some words.Width) said p is = each IsBatch (λ number. with_shape s (record s.definition.shape { width = number })) (byte_said said) (λ number. p)
valued_batch s (Some words.Characteristics) said p is = each IsBatch (λ characteristic. s) (characteristic_said said) (λ characteristic. p)
valued_batch s (Some words.Generic) said p is = each IsBatch (λ name. s) (short_name_said said) (λ name. p)
valued_batch s (Some _) said p is = tt

batch_kept : (text : List ℕ) (keyed : Token → List Part → Type 0) → IsKept text command.Submit (Unit {0}) (λ word i. i) (λ i. i) IsBatchWord keyed (λ i. IsBatch)
batch_kept text keyed = record {
  object = λ i s p. p;
  node = λ i s nodes p. p;
  word = λ i s word is p. let m = batch_marked s.job word is p.0 p.1 p.2 in (m.0, m.1, m.2, is);
  parameter = λ i s said p. each IsBatch (λ file. record s { file = Some file }) (file_name_of said) (λ file. p);
  value = λ i s word said is p. valued_batch s word said p (subst (λ (w : Option Word). IfSome w IsBatchWord) (sym is) p.3);
  margin = λ i s side margin is p. p;
  schedule = λ i s by_size is p. p;
  queue_retain = λ i s retain is queue p. p;
  retain = λ i s retain is job p. p;
  after = λ i s at is p. p;
  skipped = λ i s token behind is equals none p. p;
}

-- a batch job has no form, no copies and no flag page
pub job_is_of_batch : (now : ℕ) (text : List ℕ) (keyed : Token → List Part → Type 0) (parts : List Part) → AreAll IsBatchWord keyed parts
    → IfOk (settings_of now text command.Submit parts) IsBatch
job_is_of_batch now text keyed parts all =
    holds now text command.Submit (Unit {0}) (λ word i. i) (λ i. i) IsBatchWord keyed (λ i. IsBatch) (batch_kept text keyed) parts tt all (refl, refl, refl, tt)
