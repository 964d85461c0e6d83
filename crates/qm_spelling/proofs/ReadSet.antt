-- Something is set by SET QUEUE and SET ENTRY.
use Rattle.std.proofs.Common.{◌≡◌, ◌⊎◌, inl, inr, ℕ, Bool, true, false, cond, ◌||◌, not, List, [], ◌∷◌, Option, None, Some, Result, Ok, Err, IfOk, IfSome, is_some, refl, sym, ap, ◌∙◌, subst, option_map}
use Rattle.std.specs.Option.{option_or}
use Rattle.qm_model.specs.Common.{name_of, NameOrNumber}
use Rattle.qm_commands.specs.declared.tokens.token.Token.{Token}
use Rattle.qm_commands.specs.declared.fault.Fault.{Fault}
use Rattle.qm_grammar.specs.declared.part.Part.{Part}
use Rattle.qm_grammar.specs.declared.part.Part.TheVariants.{Parameter, Qualifier, Value, KeyValue}
use Rattle.qm_commands.specs.declared.table.Command.TheVariants as command
use Rattle.qm_commands.specs.declared.word.Word.{Word}
use Rattle.qm_commands.specs.declared.word.Word.TheVariants as words
use Rattle.qm_dcl.specs.declared.lists.ListOf.TheVariants.{Characteristics}
use Rattle.qm_dcl.specs.declared.settings.QueueSettings.{QueueSettings}
use Rattle.qm_dcl.specs.declared.settings.Settings.{Settings}
use Rattle.qm_dcl.specs.Given.{with_job, with_queue_settings, with_definition, with_shape, blocks_with, valued, with_word}
use Rattle.qm_dcl.specs.Lists.{gives, behind_last}
use Rattle.qm_dcl.specs.Queues.{change_of}
use Rattle.qm_dcl.specs.Settings.{has_value_ahead, inner_value, settings_of}
use Rattle.qm_dcl.specs.Values.{byte_said, entry_said, blocks_said, short_name_said, form_said, characteristic_said, location_said, has_equals}
use Rattle.qm_sayable.specs.Queues.{sets_queue}
use Rattle.qm_spelling.proofs.ReadSettings.{folded, AreAll, IsKept, holds}
use Rattle.qm_spelling.proofs.ReadTokens.{or_left, or_right, AreLawful, has_qualifier}

-- ---- what parts leave behind them: whether the last qualifier has what it needs, and whether characteristics are given

abbrev pub marked : (Word → Bool) → Word → Bool × Bool → Bool × Bool
marked needs word i = (not (needs word), gives Characteristics word || i.1)

abbrev pub filled : Bool × Bool → Bool × Bool
filled i = (true, i.1)

-- a value behind which an = stands has one of its own
abbrev pub HasInner : List ℕ → Token → List Part → Type 0
HasInner text token behind = has_equals text token ≡ true → is_some (inner_value behind) ≡ true

pub all_lawful : (text : List ℕ) (allowed needs : Word → Bool) (parts : List Part) → AreLawful text allowed needs parts → AreAll (λ word. allowed word ≡ true) (HasInner text) parts
all_lawful text allowed needs [] all = tt
all_lawful text allowed needs (Parameter token ∷ parts) all = all_lawful text allowed needs parts all
all_lawful text allowed needs (Qualifier word place ∷ parts) all = (all.0, all_lawful text allowed needs parts all.2)
all_lawful text allowed needs (Value token ∷ parts) all = (all.0, all_lawful text allowed needs parts all.1)
all_lawful text allowed needs (KeyValue token ∷ parts) all = all_lawful text allowed needs parts all

module _ (text : List ℕ) (allowed needs : Word → Bool) where
  -- in the end each qualifier has what it needs
  settles : (parts : List Part) (i : Bool × Bool) → AreLawful text allowed needs parts → (i.0 ≡ true) ⊎ ((has_qualifier parts ≡ true) ⊎ (has_value_ahead parts ≡ true))
      → (folded (marked needs) filled i parts).0 ≡ true
  settles [] i all (inl h) = h
  settles [] i all (inr (inl h)) = absurd cc
  settles [] i all (inr (inr h)) = absurd cc
  settles (Parameter token ∷ parts) i all (inl h) = settles parts i all (inl h)
  settles (Parameter token ∷ parts) i all (inr (inl h)) = settles parts i all (inr (inl h))
  settles (Parameter token ∷ parts) i all (inr (inr h)) = absurd cc
  settles (Qualifier word place ∷ parts) i all h = settles parts (marked needs word i) all.2 (ahead (needs word) all.1)
    where
      ahead : (need : Bool) → (need ≡ true → has_value_ahead parts ≡ true) → (not need ≡ true) ⊎ ((has_qualifier parts ≡ true) ⊎ (has_value_ahead parts ≡ true))
      ahead true has = inr (inr (has refl))
      ahead false has = inl refl
  settles (Value token ∷ parts) i all h = settles parts (filled i) all.1 (inl refl)
  settles (KeyValue token ∷ parts) i all (inl h) = settles parts i all (inl h)
  settles (KeyValue token ∷ parts) i all (inr (inl h)) = settles parts i all (inr (inl h))
  settles (KeyValue token ∷ parts) i all (inr (inr h)) = absurd cc

  -- where the parts say that characteristics are given, they are
  listed_here : (here i later : Bool) (parts : List Part) (found : Option (List Part)) → ((here || i) ≡ true) ⊎ (is_some found ≡ true)
      → (i ≡ true) ⊎ (is_some (option_or found (cond here (Some parts) None)) ≡ true)
  listed_here here i later parts (Some behind) h = inr refl
  listed_here true i later parts None h = inr refl
  listed_here false i later parts None (inl h) = inl h
  listed_here false i later parts None (inr h) = absurd cc

  lists : (parts : List Part) (i : Bool × Bool) → (folded (marked needs) filled i parts).1 ≡ true → (i.1 ≡ true) ⊎ (is_some (behind_last Characteristics parts) ≡ true)
  lists [] i h = inl h
  lists (Parameter token ∷ parts) i h = listed_here false i.1 false parts (behind_last Characteristics parts) (lists parts i h)
  lists (Qualifier word place ∷ parts) i h =
      listed_here (gives Characteristics word) i.1 false parts (behind_last Characteristics parts) (lists parts (marked needs word i) h)
  lists (Value token ∷ parts) i h = listed_here false i.1 false parts (behind_last Characteristics parts) (lists parts (filled i) h)
  lists (KeyValue token ∷ parts) i h = listed_here false i.1 false parts (behind_last Characteristics parts) (lists parts i h)

  pub is_settled : (parts : List Part) → AreLawful text allowed needs parts → has_qualifier parts ≡ true → (folded (marked needs) filled (false, false) parts).0 ≡ true
  is_settled parts all some = settles parts (false, false) all (inr (inl some))

  pub are_listed : (parts : List Part) → (folded (marked needs) filled (false, false) parts).1 ≡ true → is_some (behind_last Characteristics parts) ≡ true
  are_listed parts h = by (lists parts (false, false) h)
    where
      by : (false ≡ true) ⊎ (is_some (behind_last Characteristics parts) ≡ true) → is_some (behind_last Characteristics parts) ≡ true
      by (inl never) = absurd cc
      by (inr is) = is

pub no_inner : (text : List ℕ) (token : Token) (behind : List Part) → HasInner text token behind → has_equals text token ≡ true → inner_value behind ≡ None → ⊥
no_inner text token behind inner equals none = let is = inner equals in let no : is_some (inner_value behind) ≡ false = ap is_some none in cc

-- ---- SET QUEUE

abbrev pub is_of_queue_settings : Word → Bool
is_of_queue_settings words.JobLimit = true
is_of_queue_settings words.Characteristics = true
is_of_queue_settings words.NoCharacteristics = true
is_of_queue_settings words.FormMounted = true
is_of_queue_settings words.BlockLimit = true
is_of_queue_settings words.NoBlockLimit = true
is_of_queue_settings words.Schedule = true
is_of_queue_settings words.Retain = true
is_of_queue_settings words.NoRetain = true
is_of_queue_settings _ = false

abbrev pub queue_needs : Word → Bool
queue_needs words.JobLimit = true
queue_needs words.Characteristics = true
queue_needs words.FormMounted = true
queue_needs words.BlockLimit = true
queue_needs words.Schedule = true
queue_needs words.Retain = true
queue_needs _ = false

-- what the last qualifier sets is set
abbrev IsQueueSet : Option Word → Bool → QueueSettings → Type 0
IsQueueSet None listed q = ⊥
IsQueueSet (Some words.JobLimit) listed q = is_some q.limit ≡ true
IsQueueSet (Some words.Characteristics) listed q = listed ≡ true
IsQueueSet (Some words.NoCharacteristics) listed q = listed ≡ true
IsQueueSet (Some words.FormMounted) listed q = is_some q.form ≡ true
IsQueueSet (Some words.BlockLimit) listed q = is_some q.blocks ≡ true
IsQueueSet (Some words.NoBlockLimit) listed q = is_some q.blocks ≡ true
IsQueueSet (Some words.Schedule) listed q = is_some q.by_size ≡ true
IsQueueSet (Some words.Retain) listed q = is_some q.retain ≡ true
IsQueueSet (Some words.NoRetain) listed q = is_some q.retain ≡ true
IsQueueSet (Some _) listed q = ⊥

abbrev pub Listed : Option Word → Bool → Type 0
Listed word listed = IfSome word (λ w. gives Characteristics w ≡ true → listed ≡ true)

abbrev QueueSet : Bool × Bool → Settings → Type 0
QueueSet i s = (i.0 ≡ true → IsQueueSet s.word i.1 s.queue_settings) × IfSome s.word (λ w. is_of_queue_settings w ≡ true) × Listed s.word i.1

pub each : {X : Type 0} (P : Settings → Type 0) (give : X → Settings) (given : Option X) → ((x : X) → P (give x)) → IfSome (option_map give given) P
each P give None keeps = tt
each P give (Some x) keeps = keeps x

-- a qualifier without a value sets something
queue_word_sets : (s : Settings) (word : Word) (listed : Bool) → is_of_queue_settings word ≡ true → not (queue_needs word) ≡ true
    → IsQueueSet (Some word) (gives Characteristics word || listed) (with_word s word).queue_settings
queue_word_sets s words.JobLimit listed is none = absurd cc
queue_word_sets s words.Characteristics listed is none = absurd cc
queue_word_sets s words.NoCharacteristics listed is none = refl
queue_word_sets s words.FormMounted listed is none = absurd cc
queue_word_sets s words.BlockLimit listed is none = absurd cc
queue_word_sets s words.NoBlockLimit listed is none = refl
queue_word_sets s words.Schedule listed is none = absurd cc
queue_word_sets s words.Retain listed is none = absurd cc
queue_word_sets s words.NoRetain listed is none = refl
queue_word_sets s _ listed is none = absurd cc

module _ (listed : Bool) where
  abbrev SetAt : Option Word → Settings → Type 0
  SetAt word t = IsQueueSet word listed t.queue_settings

  queue_valued : (s : Settings) (word : Option Word) (said : List ℕ) → IfSome word (λ w. is_of_queue_settings w ≡ true) → Listed word listed → IfSome (valued s word said) (SetAt word)
  queue_valued s None said is are = tt
  queue_valued s (Some words.Queue) said is are = absurd cc
  queue_valued s (Some words.Requeue) said is are = absurd cc
  queue_valued s (Some words.Entry) said is are = absurd cc
  queue_valued s (Some words.Name) said is are = absurd cc
  queue_valued s (Some words.Priority) said is are = absurd cc
  queue_valued s (Some words.Form) said is are = absurd cc
  queue_valued s (Some words.Copies) said is are = absurd cc
  queue_valued s (Some words.JobLimit) said is are = each (SetAt (Some words.JobLimit)) (λ number. with_queue_settings s (record s.queue_settings { limit = Some number })) (byte_said said) (λ number. refl)
  queue_valued s (Some words.FormMounted) said is are = each (SetAt (Some words.FormMounted)) (λ form. with_queue_settings s (record s.queue_settings { form = Some form })) (form_said said) (λ form. refl)
  queue_valued s (Some words.BlockLimit) said is are = each (SetAt (Some words.BlockLimit)) (λ number. with_queue_settings s (record s.queue_settings { blocks = Some (blocks_with s.queue_settings.blocks number) })) (blocks_said said) (λ number. refl)
  queue_valued s (Some words.On) said is are = absurd cc
  queue_valued s (Some words.Stock) said is are = absurd cc
  queue_valued s (Some words.Length) said is are = absurd cc
  queue_valued s (Some words.Width) said is are = absurd cc
  queue_valued s (Some words.Characteristics) said is are = each (SetAt (Some words.Characteristics)) (λ characteristic. s) (characteristic_said said) (λ characteristic. are refl)
  queue_valued s (Some words.Generic) said is are = absurd cc
  queue_valued s (Some _) said is are = tt

  -- what is given keeps the last qualifier
  module _ (i : Bool) (s : Settings) (p : QueueSet (i, listed) s) where
    with_last : (t : Settings) (word : Option Word) → word ≡ s.word → t.word ≡ s.word → IsQueueSet word listed t.queue_settings → QueueSet (true, listed) t
    with_last t word is same set = (
      (λ h. subst (λ (w : Option Word). IsQueueSet w listed t.queue_settings) (is ∙ sym same) set),
      subst (λ (w : Option Word). IfSome w (λ x. is_of_queue_settings x ≡ true)) (sym same) p.1,
      subst (λ (w : Option Word). Listed w listed) (sym same) p.2,
    )

    last_allowed : (word : Option Word) → word ≡ s.word → IfSome word (λ w. is_of_queue_settings w ≡ true)
    last_allowed word is = subst (λ (w : Option Word). IfSome w (λ x. is_of_queue_settings x ≡ true)) (sym is) p.1

    last_listed : (word : Option Word) → word ≡ s.word → Listed word listed
    last_listed word is = subst (λ (w : Option Word). Listed w listed) (sym is) p.2

  pub same_word : (s : Settings) (word : Option Word) (said : List ℕ) → IfSome (valued s word said) (λ t. t.word ≡ s.word)
  same_word s None said = tt
  same_word s (Some words.Queue) said = each (λ t. t.word ≡ s.word) (λ name. record s { queue = Some name }) (short_name_said said) (λ name. refl)
  same_word s (Some words.Requeue) said = each (λ t. t.word ≡ s.word) (λ name. record s { queue = Some name }) (short_name_said said) (λ name. refl)
  same_word s (Some words.Entry) said = each (λ t. t.word ≡ s.word) (λ number. record s { entry = Some number }) (entry_said said) (λ number. refl)
  same_word s (Some words.Name) said = each (λ t. t.word ≡ s.word) (λ name. with_job s (record s.job { name = Some name })) (name_of said) (λ name. refl)
  same_word s (Some words.Priority) said = each (λ t. t.word ≡ s.word) (λ number. with_job s (record s.job { priority = Some number })) (byte_said said) (λ number. refl)
  same_word s (Some words.Form) said = each (λ t. t.word ≡ s.word) (λ form. with_job s (record s.job { form = Some form })) (form_said said) (λ form. refl)
  same_word s (Some words.Copies) said = each (λ t. t.word ≡ s.word) (λ number. with_job s (record s.job { copies = number })) (byte_said said) (λ number. refl)
  same_word s (Some words.JobLimit) said = each (λ t. t.word ≡ s.word) (λ number. with_queue_settings s (record s.queue_settings { limit = Some number })) (byte_said said) (λ number. refl)
  same_word s (Some words.FormMounted) said = each (λ t. t.word ≡ s.word) (λ form. with_queue_settings s (record s.queue_settings { form = Some form })) (form_said said) (λ form. refl)
  same_word s (Some words.BlockLimit) said = each (λ t. t.word ≡ s.word) (λ number. with_queue_settings s (record s.queue_settings { blocks = Some (blocks_with s.queue_settings.blocks number) })) (blocks_said said) (λ number. refl)
  same_word s (Some words.On) said = each (λ t. t.word ≡ s.word) (λ location. with_queue_settings s (record s.queue_settings { location = Some location })) (location_said said) (λ location. refl)
  same_word s (Some words.Stock) said = each (λ t. t.word ≡ s.word) (λ name. with_definition s (record s.definition { stock = Some name })) (short_name_said said) (λ name. refl)
  same_word s (Some words.Length) said = each (λ t. t.word ≡ s.word) (λ number. with_shape s (record s.definition.shape { length = number })) (byte_said said) (λ number. refl)
  same_word s (Some words.Width) said = each (λ t. t.word ≡ s.word) (λ number. with_shape s (record s.definition.shape { width = number })) (byte_said said) (λ number. refl)
  same_word s (Some words.Characteristics) said = each (λ t. t.word ≡ s.word) (λ characteristic. s) (characteristic_said said) (λ characteristic. refl)
  same_word s (Some words.Generic) said = each (λ t. t.word ≡ s.word) (λ name. s) (short_name_said said) (λ name. refl)
  same_word s (Some _) said = tt

  lasting : (i : Bool) (s : Settings) (word : Option Word) → word ≡ s.word → QueueSet (i, listed) s → (o : Option Settings) → IfSome o (SetAt word) → IfSome o (λ t. t.word ≡ s.word)
      → IfSome o (QueueSet (true, listed))
  lasting i s word is p None set same = tt
  lasting i s word is p (Some t) set same = with_last i s p t word is same set

queue_kept : (text : List ℕ) → IsKept text command.SetQueue (Bool × Bool) (marked queue_needs) filled (λ word. is_of_queue_settings word ≡ true) (HasInner text) QueueSet
queue_kept text = record {
  object = λ i s p. p;
  node = λ i s nodes p. absurd cc;
  word = λ i s word is p. (queue_word_sets s word i.1 is, is, (λ h. or_left (gives Characteristics word) i.1 h));
  parameter = λ i s said p. each (QueueSet i) (λ name. record s { queue = Some name }) (short_name_said said) (λ name. p);
  value = λ i s word said is p.
      lasting i.1 i.0 s word is p (valued s word said) (queue_valued i.1 s word said (last_allowed i.1 i.0 s p word is) (last_listed i.1 i.0 s p word is)) (same_word i.1 s word said);
  margin = λ i s side margin is p. let no : false ≡ true = last_allowed i.1 i.0 s p (Some words.Margin) is in absurd cc;
  schedule = λ i s by_size is p. with_last i.1 i.0 s p (with_queue_settings s (record s.queue_settings { by_size = Some by_size })) (Some words.Schedule) is refl refl;
  queue_retain = λ i s retain is queue p. with_last i.1 i.0 s p (with_queue_settings s (record s.queue_settings { retain = Some retain })) (Some words.Retain) is refl refl;
  retain = λ i s retain is job p. absurd cc;
  after = λ i s at is p. let no : false ≡ true = last_allowed i.1 i.0 s p (Some words.After) is in absurd cc;
  skipped = λ i s token behind inner equals none p. absurd (no_inner text token behind inner equals none);
}

queue_sets : (q : QueueSettings) (word : Option Word) (listed : Bool) (given : Option (List NameOrNumber)) → (listed ≡ true → is_some given ≡ true) → IsQueueSet word listed q
    → sets_queue (change_of q given) ≡ true
queue_sets q None listed given are set = absurd set
queue_sets q (Some words.JobLimit) listed given are set = or_left _ _ (or_left _ _ (or_left _ _ (or_left _ _ (or_left _ _ set))))
queue_sets q (Some words.Characteristics) listed given are set = or_left _ _ (or_left _ _ (or_left _ _ (or_left _ _ (or_right (is_some q.limit) _ (are set)))))
queue_sets q (Some words.NoCharacteristics) listed given are set = or_left _ _ (or_left _ _ (or_left _ _ (or_left _ _ (or_right (is_some q.limit) _ (are set)))))
queue_sets q (Some words.FormMounted) listed given are set = or_left _ _ (or_left _ _ (or_left _ _ (or_right (is_some q.limit || is_some given) _ set)))
queue_sets q (Some words.BlockLimit) listed given are set = or_left _ _ (or_left _ _ (or_right (is_some q.limit || is_some given || is_some q.form) _ set))
queue_sets q (Some words.NoBlockLimit) listed given are set = or_left _ _ (or_left _ _ (or_right (is_some q.limit || is_some given || is_some q.form) _ set))
queue_sets q (Some words.Schedule) listed given are set = or_left _ _ (or_right (is_some q.limit || is_some given || is_some q.form || is_some q.blocks) _ set)
queue_sets q (Some words.Retain) listed given are set = or_right (is_some q.limit || is_some given || is_some q.form || is_some q.blocks || is_some q.by_size) _ set
queue_sets q (Some words.NoRetain) listed given are set = or_right (is_some q.limit || is_some given || is_some q.form || is_some q.blocks || is_some q.by_size) _ set
queue_sets q (Some _) listed given are set = absurd set

module _ (now : ℕ) (text : List ℕ) (parts : List Part) (given : Option (List NameOrNumber)) (are : is_some (behind_last Characteristics parts) ≡ true → is_some given ≡ true) (some : has_qualifier parts ≡ true) where
  -- SET QUEUE sets something
  pub queue_is_set : AreLawful text is_of_queue_settings queue_needs parts → IfOk (settings_of now text command.SetQueue parts) (λ s. sets_queue (change_of s.queue_settings given) ≡ true)
  queue_is_set all =
      by (settings_of now text command.SetQueue parts)
      (holds now text command.SetQueue (Bool × Bool) (marked queue_needs) filled (λ word. is_of_queue_settings word ≡ true) (HasInner text) QueueSet (queue_kept text) parts (false, false)
      (all_lawful text is_of_queue_settings queue_needs parts all) ((λ h. absurd cc), tt, tt))
    where
      by : (r : Result Settings Fault) → IfOk r (QueueSet (folded (marked queue_needs) filled (false, false) parts)) → IfOk r (λ s. sets_queue (change_of s.queue_settings given) ≡ true)
      by (Ok s) p =
          queue_sets s.queue_settings s.word (folded (marked queue_needs) filled (false, false) parts).1 given (λ h. are (are_listed text is_of_queue_settings queue_needs parts h))
          (p.0 (is_settled text is_of_queue_settings queue_needs parts all some))
      by (Err f) p = tt
