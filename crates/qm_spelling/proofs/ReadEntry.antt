-- SET ENTRY sets something.
use Rattle.std.proofs.Common.{◌≡◌, ℕ, Bool, true, false, ◌||◌, not, List, Option, None, Some, Result, Ok, Err, IfOk, IfSome, is_some, refl, sym, ◌∙◌, subst}
use Rattle.qm_model.specs.Common.{name_of, NameOrNumber}
use Rattle.qm_commands.specs.declared.fault.Fault.{Fault}
use Rattle.qm_grammar.specs.declared.part.Part.{Part}
use Rattle.qm_commands.specs.declared.table.Command.TheVariants as command
use Rattle.qm_commands.specs.declared.word.Word.{Word}
use Rattle.qm_commands.specs.declared.word.Word.TheVariants as words
use Rattle.qm_dcl.specs.declared.lists.ListOf.TheVariants.{Characteristics}
use Rattle.qm_dcl.specs.declared.settings.JobSettings.{JobSettings}
use Rattle.qm_dcl.specs.declared.settings.Settings.{Settings}
use Rattle.qm_dcl.specs.Entries.{entry_change_of}
use Rattle.qm_dcl.specs.Given.{with_job, valued, with_word, with_retain}
use Rattle.qm_dcl.specs.Lists.{gives, behind_last}
use Rattle.qm_dcl.specs.Settings.{settings_of}
use Rattle.qm_dcl.specs.Values.{byte_said, entry_said, short_name_said, form_said, characteristic_said}
use Rattle.qm_sayable.specs.Jobs.{sets_entry}
use Rattle.qm_spelling.proofs.ReadSet.{each, marked, filled, HasInner, no_inner, all_lawful, is_settled, are_listed, same_word, Listed}
use Rattle.qm_spelling.proofs.ReadSettings.{folded, IsKept, holds}
use Rattle.qm_spelling.proofs.ReadTokens.{or_left, or_right, AreLawful, has_qualifier}

abbrev pub is_of_entry : Word → Bool
is_of_entry words.Release = true
is_of_entry words.Hold = true
is_of_entry words.After = true
is_of_entry words.NoAfter = true
is_of_entry words.Priority = true
is_of_entry words.Name = true
is_of_entry words.Characteristics = true
is_of_entry words.Form = true
is_of_entry words.Requeue = true
is_of_entry words.Restart = true
is_of_entry words.NoRestart = true
is_of_entry words.Retain = true
is_of_entry _ = false

abbrev pub entry_needs : Word → Bool
entry_needs words.After = true
entry_needs words.Priority = true
entry_needs words.Name = true
entry_needs words.Characteristics = true
entry_needs words.Form = true
entry_needs words.Requeue = true
entry_needs words.Retain = true
entry_needs _ = false

-- what the last qualifier sets is set
abbrev IsEntrySet : Option Word → Bool → JobSettings → Option (List ℕ) → Type 0
IsEntrySet None listed job queue = ⊥
IsEntrySet (Some words.Release) listed job queue = job.release ≡ true
IsEntrySet (Some words.Hold) listed job queue = job.hold ≡ true
IsEntrySet (Some words.After) listed job queue = is_some job.after ≡ true
IsEntrySet (Some words.NoAfter) listed job queue = is_some job.after ≡ true
IsEntrySet (Some words.Priority) listed job queue = is_some job.priority ≡ true
IsEntrySet (Some words.Name) listed job queue = is_some job.name ≡ true
IsEntrySet (Some words.Characteristics) listed job queue = listed ≡ true
IsEntrySet (Some words.Form) listed job queue = is_some job.form ≡ true
IsEntrySet (Some words.Requeue) listed job queue = is_some queue ≡ true
IsEntrySet (Some words.Restart) listed job queue = is_some job.restart ≡ true
IsEntrySet (Some words.NoRestart) listed job queue = is_some job.restart ≡ true
IsEntrySet (Some words.Retain) listed job queue = is_some job.retain ≡ true
IsEntrySet (Some _) listed job queue = ⊥

abbrev EntrySet : Bool × Bool → Settings → Type 0
EntrySet i s = (i.0 ≡ true → IsEntrySet s.word i.1 s.job s.queue) × IfSome s.word (λ w. is_of_entry w ≡ true) × Listed s.word i.1

-- a qualifier without a value sets something
entry_word_sets : (s : Settings) (word : Word) (listed : Bool) → is_of_entry word ≡ true → not (entry_needs word) ≡ true
    → IsEntrySet (Some word) (gives Characteristics word || listed) (with_word s word).job s.queue
entry_word_sets s words.Release listed is none = refl
entry_word_sets s words.Hold listed is none = refl
entry_word_sets s words.After listed is none = absurd cc
entry_word_sets s words.NoAfter listed is none = refl
entry_word_sets s words.Priority listed is none = absurd cc
entry_word_sets s words.Name listed is none = absurd cc
entry_word_sets s words.Characteristics listed is none = absurd cc
entry_word_sets s words.Form listed is none = absurd cc
entry_word_sets s words.Requeue listed is none = absurd cc
entry_word_sets s words.Restart listed is none = refl
entry_word_sets s words.NoRestart listed is none = refl
entry_word_sets s words.Retain listed is none = absurd cc
entry_word_sets s _ listed is none = absurd cc

module _ (listed : Bool) where
  abbrev SetAt : Option Word → Settings → Type 0
  SetAt word t = IsEntrySet word listed t.job t.queue

  entry_valued : (s : Settings) (word : Option Word) (said : List ℕ) → IfSome word (λ w. is_of_entry w ≡ true) → Listed word listed → IfSome (valued s word said) (SetAt word)
  entry_valued s None said is are = tt
  entry_valued s (Some words.Queue) said is are = absurd cc
  entry_valued s (Some words.Requeue) said is are = each (SetAt (Some words.Requeue)) (λ name. record s { queue = Some name }) (short_name_said said) (λ name. refl)
  entry_valued s (Some words.Entry) said is are = absurd cc
  entry_valued s (Some words.Name) said is are = each (SetAt (Some words.Name)) (λ name. with_job s (record s.job { name = Some name })) (name_of said) (λ name. refl)
  entry_valued s (Some words.Priority) said is are = each (SetAt (Some words.Priority)) (λ number. with_job s (record s.job { priority = Some number })) (byte_said said) (λ number. refl)
  entry_valued s (Some words.Form) said is are = each (SetAt (Some words.Form)) (λ form. with_job s (record s.job { form = Some form })) (form_said said) (λ form. refl)
  entry_valued s (Some words.Copies) said is are = absurd cc
  entry_valued s (Some words.JobLimit) said is are = absurd cc
  entry_valued s (Some words.FormMounted) said is are = absurd cc
  entry_valued s (Some words.BlockLimit) said is are = absurd cc
  entry_valued s (Some words.On) said is are = absurd cc
  entry_valued s (Some words.Stock) said is are = absurd cc
  entry_valued s (Some words.Length) said is are = absurd cc
  entry_valued s (Some words.Width) said is are = absurd cc
  entry_valued s (Some words.Characteristics) said is are = each (SetAt (Some words.Characteristics)) (λ characteristic. s) (characteristic_said said) (λ characteristic. are refl)
  entry_valued s (Some words.Generic) said is are = absurd cc
  entry_valued s (Some _) said is are = tt

  -- what is given keeps the last qualifier
  module _ (i : Bool) (s : Settings) (p : EntrySet (i, listed) s) where
    with_last : (t : Settings) (word : Option Word) → word ≡ s.word → t.word ≡ s.word → SetAt word t → EntrySet (true, listed) t
    with_last t word is same set = (
      (λ h. subst (λ (w : Option Word). SetAt w t) (is ∙ sym same) set),
      subst (λ (w : Option Word). IfSome w (λ x. is_of_entry x ≡ true)) (sym same) p.1,
      subst (λ (w : Option Word). Listed w listed) (sym same) p.2,
    )

    last_allowed : (word : Option Word) → word ≡ s.word → IfSome word (λ w. is_of_entry w ≡ true)
    last_allowed word is = subst (λ (w : Option Word). IfSome w (λ x. is_of_entry x ≡ true)) (sym is) p.1

    last_listed : (word : Option Word) → word ≡ s.word → Listed word listed
    last_listed word is = subst (λ (w : Option Word). Listed w listed) (sym is) p.2

  lasting : (i : Bool) (s : Settings) (word : Option Word) → word ≡ s.word → EntrySet (i, listed) s → (o : Option Settings) → IfSome o (SetAt word) → IfSome o (λ t. t.word ≡ s.word)
      → IfSome o (EntrySet (true, listed))
  lasting i s word is p None set same = tt
  lasting i s word is p (Some t) set same = with_last i s p t word is same set

entry_kept : (text : List ℕ) → IsKept text command.SetEntry (Bool × Bool) (marked entry_needs) filled (λ word. is_of_entry word ≡ true) (HasInner text) EntrySet
entry_kept text = record {
  object = λ i s p. p;
  node = λ i s nodes p. absurd cc;
  word = λ i s word is p. (entry_word_sets s word i.1 is, is, (λ h. or_left (gives Characteristics word) i.1 h));
  parameter = λ i s said p. each (EntrySet i) (λ number. record s { entry = Some number }) (entry_said said) (λ number. p);
  value = λ i s word said is p.
      lasting i.1 i.0 s word is p (valued s word said) (entry_valued i.1 s word said (last_allowed i.1 i.0 s p word is) (last_listed i.1 i.0 s p word is)) (same_word i.1 s word said);
  margin = λ i s side margin is p. let never : false ≡ true = last_allowed i.1 i.0 s p (Some words.Margin) is in absurd cc;
  schedule = λ i s by_size is p. let never : false ≡ true = last_allowed i.1 i.0 s p (Some words.Schedule) is in absurd cc;
  queue_retain = λ i s retain is queue p. absurd cc;
  retain = λ i s retain is job p. with_last i.1 i.0 s p (with_retain s retain) (Some words.Retain) is refl refl;
  after = λ i s at is p. with_last i.1 i.0 s p (with_job s (record s.job { after = Some (Some at) })) (Some words.After) is refl refl;
  skipped = λ i s token behind inner equals none p. absurd (no_inner text token behind inner equals none);
}

module _ (job : JobSettings) (queue : Option (List ℕ)) (given : Option (List NameOrNumber)) where
  abbrev first3 : Bool
  first3 = job.release || job.hold || is_some job.after

  abbrev first6 : Bool
  first6 = first3 || is_some job.priority || is_some job.name || is_some given

  abbrev first9 : Bool
  first9 = first6 || is_some job.form || is_some queue || is_some job.restart

  all_sets : first9 ≡ true → sets_entry (entry_change_of job queue given) ≡ true
  all_sets h = or_left first9 (is_some job.retain) h

  six_sets : first6 ≡ true → sets_entry (entry_change_of job queue given) ≡ true
  six_sets h = all_sets (or_left (first6 || is_some job.form || is_some queue) (is_some job.restart) (or_left (first6 || is_some job.form) (is_some queue) (or_left first6 (is_some job.form) h)))

  three_sets : first3 ≡ true → sets_entry (entry_change_of job queue given) ≡ true
  three_sets h = six_sets (or_left (first3 || is_some job.priority || is_some job.name) (is_some given) (or_left (first3 || is_some job.priority) (is_some job.name) (or_left first3 (is_some job.priority) h)))

  entry_sets : (word : Option Word) (listed : Bool) → (listed ≡ true → is_some given ≡ true) → IsEntrySet word listed job queue → sets_entry (entry_change_of job queue given) ≡ true
  entry_sets None listed are set = absurd set
  entry_sets (Some words.Release) listed are set = three_sets (or_left (job.release || job.hold) (is_some job.after) (or_left job.release job.hold set))
  entry_sets (Some words.Hold) listed are set = three_sets (or_left (job.release || job.hold) (is_some job.after) (or_right job.release job.hold set))
  entry_sets (Some words.After) listed are set = three_sets (or_right (job.release || job.hold) (is_some job.after) set)
  entry_sets (Some words.NoAfter) listed are set = three_sets (or_right (job.release || job.hold) (is_some job.after) set)
  entry_sets (Some words.Priority) listed are set = six_sets (or_left (first3 || is_some job.priority || is_some job.name) (is_some given) (or_left (first3 || is_some job.priority) (is_some job.name) (or_right first3 (is_some job.priority) set)))
  entry_sets (Some words.Name) listed are set = six_sets (or_left (first3 || is_some job.priority || is_some job.name) (is_some given) (or_right (first3 || is_some job.priority) (is_some job.name) set))
  entry_sets (Some words.Characteristics) listed are set = six_sets (or_right (first3 || is_some job.priority || is_some job.name) (is_some given) (are set))
  entry_sets (Some words.Form) listed are set = all_sets (or_left (first6 || is_some job.form || is_some queue) (is_some job.restart) (or_left (first6 || is_some job.form) (is_some queue) (or_right first6 (is_some job.form) set)))
  entry_sets (Some words.Requeue) listed are set = all_sets (or_left (first6 || is_some job.form || is_some queue) (is_some job.restart) (or_right (first6 || is_some job.form) (is_some queue) set))
  entry_sets (Some words.Restart) listed are set = all_sets (or_right (first6 || is_some job.form || is_some queue) (is_some job.restart) set)
  entry_sets (Some words.NoRestart) listed are set = all_sets (or_right (first6 || is_some job.form || is_some queue) (is_some job.restart) set)
  entry_sets (Some words.Retain) listed are set = or_right first9 (is_some job.retain) set
  entry_sets (Some _) listed are set = absurd set

module _ (now : ℕ) (text : List ℕ) (parts : List Part) (given : Option (List NameOrNumber)) (are : is_some (behind_last Characteristics parts) ≡ true → is_some given ≡ true) (some : has_qualifier parts ≡ true) where
  -- SET ENTRY sets something
  pub entry_is_set : AreLawful text is_of_entry entry_needs parts → IfOk (settings_of now text command.SetEntry parts) (λ s. sets_entry (entry_change_of s.job s.queue given) ≡ true)
  entry_is_set all =
      by (settings_of now text command.SetEntry parts)
      (holds now text command.SetEntry (Bool × Bool) (marked entry_needs) filled (λ word. is_of_entry word ≡ true) (HasInner text) EntrySet (entry_kept text) parts (false, false)
      (all_lawful text is_of_entry entry_needs parts all) ((λ h. absurd cc), tt, tt))
    where
      by : (r : Result Settings Fault) → IfOk r (EntrySet (folded (marked entry_needs) filled (false, false) parts)) → IfOk r (λ s. sets_entry (entry_change_of s.job s.queue given) ≡ true)
      by (Ok s) p =
          entry_sets s.job s.queue given s.word (folded (marked entry_needs) filled (false, false) parts).1 (λ h. are (are_listed text is_of_entry entry_needs parts h))
          (p.0 (is_settled text is_of_entry entry_needs parts all some))
      by (Err f) p = tt
